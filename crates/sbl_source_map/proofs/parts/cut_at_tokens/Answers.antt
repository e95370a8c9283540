use Rattle.std.proofs.Common.{rules, length}
use Rattle.std.proofs.lemmas.List.{take_rest}
use Rattle.sbl_source_map.proofs.PartFacts.{ends_in_order}
use Rattle.sbl_source_map.proofs.parts.cut_at_tokens.Goals as goal

pub cut_at-requires-clause-ordered : goal.cut_at-requires-clause-ordered
cut_at-requires-clause-ordered c =
    (ends_in_order c.args.tokens.now c.first-item.result _ c.end_of.result (length c.args.text.now) c.requires (search rules) (take_rest c.args.tokens.now 1) c.end_of.ensures).0

pub cut_at-requires-clause-inside : goal.cut_at-requires-clause-inside
cut_at-requires-clause-inside c =
    (ends_in_order c.args.tokens.now c.first-item.result _ c.end_of.result (length c.args.text.now) c.requires (search rules) (take_rest c.args.tokens.now 1) c.end_of.ensures).1
