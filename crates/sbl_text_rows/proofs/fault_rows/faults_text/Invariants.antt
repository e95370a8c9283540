use Rattle.std.proofs.Common.{◌≡◌, ◌++◌, drop, map}
use Rattle.sbl_text_rows.specs.FaultRows.{fault_lines}
use Rattle.sbl_text_rows.specs.FaultViews.{view_fault}
use Rattle.sbl_text_rows.specs.Views.{Measures}
use Rattle.sbl_text_rows.proofs.fault_rows.faults_text.Given as goal

abbrev pub invariant-loop-row : goal.invariant-loop-row
invariant-loop-row l =
    Measures l.ruler × (l.ruler.text.now ≡ l.text)
    × (l.out.items ++ fault_lines l.text (map view_fault (drop l.row-index l.rows)) ≡ fault_lines l.text (map view_fault l.rows))
