use Rattle.std.proofs.Common.{map}
use Rattle.sbl_script.specs.ParsedScript.{source_of}
use Rattle.sbl_semantics.specs.TouchedItems.{item_of}
use Rattle.sbl_bench.proofs.Bringing.{met_by_marks}
use Rattle.sbl_bench.proofs.affected_words.affected_by_items.Goals as goal

pub returns : goal.returns
returns c machine there = met_by_marks (source_of c.args.script.now) (map item_of c.args.items.now) c.in_ok-marks.marks (c.in_ok-marks.ensures machine there)
