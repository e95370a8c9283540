use Rattle.std.proofs.Common.{rules, ◌≡◌, refl, sym, subst, ap, ◌∙◌}
use Rattle.sbl_run_state.specs.Slots.{slot_values, AreUpTo}
use Rattle.sbl_run_state.proofs.SlotValues.{more_values, more_up_to}
use Rattle.sbl_run_state.proofs.slots.grow.Goals as goal

pub loop-alloc-preserved : goal.loop-alloc-preserved
loop-alloc-preserved g c =
    let slots = c.loop-alloc.slots.items in (
      λ round count l. ap (slot_values round count) c.in_ok-push.ensures.items ∙ more_values round count slots _ l refl ∙ c.loop-alloc.invariant.0 round count l,
      λ round a. subst (AreUpTo round) (sym c.in_ok-push.ensures.items) (more_up_to round slots _ (c.loop-alloc.invariant.1 round a) refl),
    )

pub returns-in_err-push-clause-up_to : goal.returns-in_err-push-clause-up_to
returns-in_err-push-clause-up_to g c round a =
    let same : c.push.new.self.items ≡ c.loop-alloc.slots.items = search rules in
    subst (AreUpTo round) (sym same) (c.loop-alloc.invariant.1 round a)
