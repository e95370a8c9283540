use Rattle.std.proofs.Common.{◌∙◌, ◌++◌, ◌∷◌, [], List, ap, inr}
use Rattle.sbl_source_map.specs.declared.fault_lists.PlacedFault.{PlacedFault}
use Rattle.sbl_source_map.proofs.fault_lists.only_fault.Goals as goal

pub returns : goal.returns
returns c = λ unread external.
    let x : PlacedFault = record { fault = c.args.fault; range = c.in_ok-range.range } in
    inr (
      c.args.fault,
      c.in_ok-range.range,
      unread,
      c.in_ok-range.ensures unread,
      c.in_ok-push.ensures.items ∙ ap (λ (xs : List PlacedFault). xs ++ x ∷ []) c.new-faults.ensures.items,
    )
