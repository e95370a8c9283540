use Rattle.std.proofs.Common.{◌<◌, ◌∙◌, map, subst, sym, ap}
use Rattle.sbl_text.specs.Latest.{at_name}
use Rattle.sbl_text.specs.Escapes.{find}
use Rattle.sbl_text.proofs.Definitions.{unfound, latest_at, get_within, found_value}
use Rattle.sbl_text.proofs.macros.Macros.find.Goals as goal

pub index-requires : goal.index-requires
index-requires c =
    let h = latest_at (map (λ m. record { name = m.name.items; value = m.value.items }) c.self.inside.definitions.items) c.args.name.now (at_name c.self.inside.latest c.args.name.now) c.in-Some.place.now (c.self.invariant c.args.name.now) c.in-Some.ensures.value in
    subst (λ n. c.in-Some.place.now < n) (sym c.self.inside.definitions.ok.0) (get_within (λ m. record { name = m.name.items; value = m.value.items }) c.self.inside.definitions.items c.in-Some.place.now h.0 h.1)

pub returns-in-Some : goal.returns-in-Some
returns-in-Some c =
    let h = latest_at (map (λ m. record { name = m.name.items; value = m.value.items }) c.self.inside.definitions.items) c.args.name.now (at_name c.self.inside.latest c.args.name.now) c.in-Some.place.now (c.self.invariant c.args.name.now) c.in-Some.ensures.value in
    found_value (λ m. record { name = m.name.items; value = m.value.items }) c.self.inside.definitions.items c.args.self.now c.args.name.now c.in-Some.place.now c.index.result.now c.as_slice.result.now
    c.self.view_is h c.index.ensures c.as_slice.ensures.value

pub returns-in-None : goal.returns-in-None
returns-in-None c =
    unfound (map (λ m. record { name = m.name.items; value = m.value.items }) c.self.inside.definitions.items) c.args.name.now (at_name c.self.inside.latest c.args.name.now) (c.self.invariant c.args.name.now) c.in-None.ensures.value ∙ ap (λ l. find l c.args.name.now) c.self.view_is
