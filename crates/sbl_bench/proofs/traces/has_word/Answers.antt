use Rattle.std.proofs.Common.{◌∙◌}
use Rattle.sbl_bench.proofs.MapEntries.{found_word}
use Rattle.sbl_bench.proofs.traces.has_word.Goals as goal

pub returns : goal.returns
returns c = c.contains_key.ensures ∙ found_word c.args.word.now c.args.traces.now.entries
