use Rattle.std.proofs.Common.{◌≡◌, ◌∙◌, ◌-◌, ℕ, List, ap, arith, drop, false, length, nat_eq, sym, take}
use Rattle.std.proofs.lemmas.List.{length-drop, take_all}
use Rattle.std.specs.List.{starts_with}
use Rattle.sbl_reports.proofs.FindFacts.{contains_later}
use Rattle.sbl_reports.proofs.lookups.contains_text.Goals as goal

pub loop-i-preserved : goal.loop-i-preserved
loop-i-preserved c =
    let text = c.args.text.now in
    let part = c.args.part.now in
    let i = c.loop-i.i in
    let rest : take (length text - i) (drop i text) ≡ drop i text = take_all (length text - i) (drop i text) (omega (arith, length-drop i text)) in
    let here : starts_with nat_eq (drop i text) part ≡ false =
    ap (λ (l : List ℕ). starts_with nat_eq l part) (sym rest) ∙ sym c.starts_with.ensures.value ∙ c.if-starts_with.false in
    contains_later text part i c.loop-i-test.true here ∙ c.loop-i.invariant
