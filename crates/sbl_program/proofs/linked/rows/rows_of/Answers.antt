use Rattle.std.proofs.Common.{map, Vec, Global, ℕ}
use Rattle.sbl_semantics.specs.Fitting.{read_all}
use Rattle.sbl_program.proofs.Sorted.{rows_are}
use Rattle.sbl_program.proofs.linked.rows.rows_of.Goals as goal

pub returns : goal.returns
returns c =
    rows_are (read_all c.args.direction (map (λ (v : Vec ℕ Global). v.items) c.args.strings.now)) c.in_ok-rows.rows.items c.sort.new.self.items c.in_ok-rows.ensures.texts c.in_ok-rows.ensures.numbers c.in_ok-sort.ensures.permutation c.in_ok-sort.ensures.sorted
