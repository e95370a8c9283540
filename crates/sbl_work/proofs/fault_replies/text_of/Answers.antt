use Rattle.std.proofs.Common.{List, map, ap, ◌∙◌}
use Rattle.sbl_source_map.proofs.HeadFacts.{if_ok}
use Rattle.sbl_text_rows.specs.FaultRows.{fault_lines}
use Rattle.sbl_text_rows.specs.FaultViews.{view_fault}
use Rattle.sbl_text_rows.specs.declared.fault_rows.FaultRow.{FaultRow}
use Rattle.sbl_work.proofs.fault_replies.text_of.Goals as goal

pub returns : goal.returns
returns c =
    if_ok c.faults_text.result c.faults_text.ensures
    (λ report is. (
      map view_fault c.in_ok-rows.rows.items,
      c.in_ok-rows.ensures,
      is ∙ ap (λ (xs : List FaultRow). fault_lines c.args.refused.text.now (map view_fault xs)) c.deref.ensures.value,
    ))
