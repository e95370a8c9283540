use Rattle.std.proofs.Common.{◌∙◌, Some, sym}
use Rattle.sbl_text.specs.Latest.{at_name}
use Rattle.sbl_text.proofs.Definitions.{latest_push, put_at}
use Rattle.sbl_text.proofs.macros.Macros.define.Goals as goal

pub invariant_of-self-in-Ok : goal.invariant_of-self-in-Ok
invariant_of-self-in-Ok c = λ q.
    latest_push (λ m. record { name = m.name.items; value = m.value.items }) c.self.inside.definitions.items c.push.new.self.items
    record { name = c.in_ok-from_slice.field-0; value = c.in_ok-from_slice-2.field-0 } c.in_ok-key.key.items c.len-place.result q (at_name c.self.inside.latest q) (at_name c.insert.new.self q)
    c.in_ok-push.ensures.items (c.in_ok-from_slice.ensures.items ∙ sym c.in_ok-key.ensures.items) (c.len-place.ensures ∙ c.self.inside.definitions.ok.0) (c.self.invariant q)
    (put_at c.in_ok-key.key.items c.self.inside.latest c.insert.new.self (Some c.len-place.result) c.in-Ok.ensures.updates q)
