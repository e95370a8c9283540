use Rattle.std.proofs.Common.{length}
use Rattle.std.specs.Str.{chars}
use Rattle.sbl_source_map.proofs.LexerSteps.{HasReadTo}
use Rattle.sbl_source_map.proofs.fault_ranges.stop_of.Given as goal

abbrev pub invariant-tokens : goal.invariant-tokens
invariant-tokens l = HasReadTo (chars l.text) l.lexer l.inserts

abbrev pub decreases-tokens : goal.decreases-tokens
decreases-tokens l = length l.lexer.rest
