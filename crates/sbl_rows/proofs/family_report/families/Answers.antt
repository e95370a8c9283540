use Rattle.std.proofs.Common.{◌≡◌, ◌∙◌, ◌++◌, ◌∷◌, [], List, length, ap}
use Rattle.std.specs.List.{filter_map, flat_map}
use Rattle.std.proofs.lemmas.List.{map-append}
use Rattle.sbl_rows.specs.Classes.{in_order}
use Rattle.sbl_rows.specs.Counting.{all_taken, unknown_in, view_families}
use Rattle.sbl_rows.specs.declared.family_report.FamilyRow.TheVariants.{Unknown}
use Rattle.sbl_rows.specs.Families as spec
use Rattle.sbl_rows.specs.Families.{FamilyResult, families_of, over_rows, view_result, view_results, view_words}
use Rattle.sbl_rows.specs.Rows.{Row, view_rows}
use Rattle.sbl_rows.proofs.ChangeFacts.{three}
use Rattle.sbl_rows.proofs.FamilyFacts.{all-taken}
use Rattle.sbl_rows.proofs.family_report.families.Goals as goal

pub returns : goal.returns
returns c =
    let rows : List Row = view_rows c.args.rows.now in
    let lists = view_words c.args.lists.now in
    let all : view_families c.in_ok-families.families.items ≡ families_of rows [] lists = c.in_ok-families.ensures ∙ (λ i. all_taken (c.in_ok-outcomes.ensures i) lists) ∙ all-taken rows lists in
    let all-1 : view_families c.deref.result.now ≡ families_of rows [] lists = ap view_families c.deref.ensures.value ∙ all in
    let all-2 : view_families c.deref-2.result.now ≡ families_of rows [] lists = ap view_families c.deref-2.ensures.value ∙ all in
    let all-3 : view_families c.deref-3.result.now ≡ families_of rows [] lists = ap view_families c.deref-3.ensures.value ∙ all in
    let pairs : view_results c.push.new.self.items ≡ spec.results_of (families_of rows [] lists) =
    three _ _ _ _ _ _ _ (ap view_results c.new-found.ensures.items) c.in_ok-push_under.ensures c.in_ok-push_over.ensures
    (ap view_results c.in_ok-push.ensures.items ∙ map-append view_result _ (c.in_ok-pairs.pairs ∷ []))
    ∙ (λ i. (filter_map spec.under (all-1 i) ++ over_rows (all-2 i)) ++ ((c.in_ok-pairs.ensures ∙ ap spec.pairs_row all-3) i ∷ [])) in
    let unknown : c.in_ok-unknown.unknown ≡ length (spec.unknown_words rows lists) =
    c.in_ok-unknown.ensures ∙ (λ i. length (in_order (unknown_in (c.in_ok-outcomes.ensures i) (flat_map (λ l. l) lists)))) in
    ap view_results c.in_ok-push-2.ensures.items ∙ map-append view_result c.push.new.self.items (Unknown c.in_ok-unknown.unknown ∷ [])
    ∙ (λ i. pairs i ++ spec.Unknown (unknown i) ∷ [])
