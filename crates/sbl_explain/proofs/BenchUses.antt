-- The number of the rows that a bench has of an item.
use Rattle.std.proofs.Common.{◌≡◌, ◌∙◌, ℕ, true, List, length, map, sym, ap, subst}
use Rattle.std.proofs.lemmas.List.{length-map}
use Rattle.sbl_bench.specs.KeptRuns.{KeptRuns, setting_of}
use Rattle.sbl_bench.specs.Traces.{rows_meeting}
use Rattle.sbl_machine.specs.Marks.{has_item}
use Rattle.sbl_semantics.specs.TouchedItems.{names_of}
use Rattle.sbl_ast.specs.NamedParts.{Part'}
use Rattle.sbl_rows.specs.Rows.{Row, view_row}
use Rattle.sbl_rows.specs.declared.row.Row as declared
use Rattle.sbl_uses.specs.Used.{Usable, Whole, number_using}
use Rattle.sbl_uses.specs.UsableViews.{is_defined}
use Rattle.sbl_uses.proofs.UserFacts.{numbers_of_rows}
use Rattle.sbl_explain.specs.UsableViews.{number_for}

-- it is that of the words that use the item
pub number_whole : (bench : KeptRuns) (u : Usable) (x y : Part') (rows : List declared.Row) (n : ℕ) → u ≡ Whole x → y ≡ x
    → (has_item (names_of (setting_of bench).script) y ≡ true → map view_row rows ≡ rows_meeting (setting_of bench) bench.words y) → n ≡ length rows
    → is_defined (setting_of bench).script u ≡ true → n ≡ number_for bench u
number_whole bench u x y rows n is same met count defined =
    let s = setting_of bench in
    let there : is_defined s.script (Whole x) ≡ true = subst (λ (v : Usable). is_defined s.script v ≡ true) is defined in
    let here : has_item (names_of s.script) y ≡ true = subst (λ (z : Part'). has_item (names_of s.script) z ≡ true) (sym same) there in
    count
    ∙ sym (length-map rows view_row)
    ∙ ap (λ (l : List Row). length l) (met here)
    ∙ ap (λ (z : Part'). length (rows_meeting s bench.words z)) same
    ∙ sym (numbers_of_rows s bench.words (Whole x))
    ∙ ap (number_using s bench.words) (sym is)
