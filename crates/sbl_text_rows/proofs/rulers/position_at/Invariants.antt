use Rattle.std.proofs.Common.{◌≡◌}
use Rattle.sbl_text_rows.specs.Views.{column_at, line_at}
use Rattle.sbl_text_rows.proofs.rulers.position_at.Given as goal

abbrev pub invariant-loop-i : goal.invariant-loop-i
invariant-loop-i l = (l.line ≡ line_at l.text l.i) × (l.column ≡ column_at l.text l.i)
