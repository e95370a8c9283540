use Rattle.std.proofs.Common.{◌≡◌, map, take, length}
use Rattle.sbl_semantics.specs.Fitting.{read_all}
use Rattle.sbl_program.specs.Linked.{AreOwn, numbers_of, texts_of}
use Rattle.sbl_program.proofs.linked.rows.rows_by_number.Given as goal

abbrev pub invariant-loop-i : goal.invariant-loop-i
invariant-loop-i l = (texts_of l.rows.items ≡ take l.i (read_all l.direction (map (λ v. v.items) l.strings))) × AreOwn (numbers_of l.rows.items) × (length l.rows.items ≡ l.i)
