use Rattle.sbl_source_map.proofs.PartFacts.{prefix_is, until_end_prefix}
use Rattle.sbl_source_map.proofs.parts.item_tokens.Goals as goal

pub slice_bounds-result-end : goal.slice_bounds-result-end
slice_bounds-result-end c = (prefix_is c.args.tokens.now _ c.count_until_end.result c.count_until_end.ensures (until_end_prefix 0 _)).0

pub returns : goal.returns
returns c = (prefix_is c.args.tokens.now _ c.count_until_end.result c.count_until_end.ensures (until_end_prefix 0 _)).1
