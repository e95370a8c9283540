use Rattle.std.proofs.Common.{rules, arith, ◌≡◌, ◌<◌, [], ◌∷◌, ◌++◌, length, map, refl, sym, subst}
use Rattle.std.proofs.lemmas.List.{length-map}
use Rattle.sbl_semantics.specs.declared.touch.Touch.TheVariants.{Searched}
use Rattle.sbl_run_state.specs.Marks.{AreMarked}
use Rattle.sbl_run_state.proofs.Marked.{grown_marks, searched_marks}
use Rattle.sbl_run_state.proofs.touches.TouchLog.search.Goals as goal

pub invariant_of-self-2 : goal.invariant_of-self-2
invariant_of-self-2 c =
    let s = c.self.inside in
    let ts = s.touches.items in
    let i = c.args.routine in
    let k = c.args.among in
    let rows = map (λ row. row.items) c.ensure_mark_in.new.rows.items in
    let there = c.in_ok-ensure_mark_in.ensures.there in
    let h = grown_marks s.round ts s.entered.items s.entered.items _ rows s.tested.items s.tested.items c.self.invariant (λ i. refl) c.ensure_mark_in.ensures.same (λ g. refl) in
    let l : i < length rows = omega (arith, there.0, length-map c.ensure_mark_in.new.rows.items (λ row. row.items)) in
    let e : c.push.new.self.items ≡ ts ++ (Searched i k ∷ []) = search rules in
    let m = searched_marks s.round ts s.entered.items rows s.tested.items i k h l there.1 in
    subst (λ ts. AreMarked s.round ts s.entered.items (map (λ row. row.items) c.set_in.new.rows.items) s.tested.items) (sym e) (subst (λ rows. AreMarked s.round (ts ++ (Searched i k ∷ [])) s.entered.items rows s.tested.items) (sym c.set_in.ensures) m)
