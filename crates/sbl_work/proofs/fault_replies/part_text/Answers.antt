use Rattle.std.proofs.Common.{List, subst}
use Rattle.sbl_source_map.proofs.HeadFacts.{if_ok}
use Rattle.sbl_source_map.specs.declared.fault_lists.PlacedFault.{PlacedFault}
use Rattle.sbl_work.specs.FaultReplies.{AreRowsOf}
use Rattle.sbl_work.proofs.fault_replies.part_text.Goals as goal

pub returns : goal.returns
returns c =
    if_ok c.text_of.result c.text_of.ensures
    (λ report rows. (
      c.in_ok-all.all.items,
      c.in_ok-all.ensures,
      subst (λ (xs : List PlacedFault). AreRowsOf c.args.typed.now xs report.items) c.deref.ensures.value rows,
    ))
