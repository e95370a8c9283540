-- The rows of a vocabulary, and the words in it.
use Rattle.std.proofs.Common.{◌≡◌, ◌∙◌, ◌<◌, ◌≤◌, ℕ, zero, Bool, true, false, List, [], ◌∷◌, get_or, length, None, Some, map, refl, sym, ap, subst, suc, arith, tests}
use Rattle.std.specs.Prelude.{nat_lt}
use Rattle.std.specs.declared.vec.Vec.{Vec}
use Rattle.std.specs.declared.alloc.Global.{Global}
use Rattle.std.proofs.lemmas.Simd.{map-map}
use Rattle.sbl_ast.specs.Source.{Source}
use Rattle.sbl_bench.specs.Contents.{opening_fault, word_fault}
use Rattle.sbl_bench.specs.Vocabulary.{vocabulary, with_word}
use Rattle.sbl_bench.specs.declared.fault.EditFault.TheVariants.{WordTooLong}
use Rattle.sbl_rows.specs.Rows.{row_of}
use Rattle.sbl_rows.specs.Setting.{under}
use Rattle.sbl_io.specs.Records.{records_text}
use Rattle.sbl_semantics.specs.Limit.{default_limit}
use Rattle.sbl_records.specs.RowRecords.{row_fields}
use Rattle.sbl_reports.specs.Listings.{stems_text}
use Rattle.sbl_input.specs.VocabularyRows.{text_of_rows}
use Rattle.sbl_input.specs.WordLists.{IsVocabulary, texts_of}
use Rattle.sbl_input.proofs.WordListFacts.{or_left, or_right}

-- the fields of the row of a word
abbrev pub fields_in : Source → Vec ℕ Global → List (List ℕ)
fields_in s w = row_fields (row_of (under s default_limit) w.items)

-- the text of the rows of words, by the fields of each
pub rows_fused : (s : Source) (words : List (Vec ℕ Global)) → records_text (map (fields_in s) words) ≡ text_of_rows s (texts_of words)
rows_fused s words =
    let row = row_of (under s default_limit) in
    let items = λ (w : Vec ℕ Global). w.items in
    ap records_text (sym (ap (map row_fields) (map-map row items words) ∙ map-map row_fields (λ (w : Vec ℕ Global). row w.items) words))

fits : (words : List (List ℕ)) (w : List ℕ) → word_fault words w ≡ None → length w ≤ 255
fits words w none = by (nat_lt 255 (length w)) refl
  where
    by : (b : Bool) → nat_lt 255 (length w) ≡ b → length w ≤ 255
    by true h = absurd (let clash : Some WordTooLong ≡ None = sym (rw h refl) ∙ none in let no : ⊥ = cc clash in no)
    by false h = grind (arith, tests, h)

-- no word is too long among words without a fault
pub short_word : (before : List (List ℕ)) (words : List (Vec ℕ Global)) (i : ℕ) (w : Vec ℕ Global) → i < length words → w ≡ get_or words i w
    → opening_fault before (texts_of words) ≡ None → length w.items ≤ 255
short_word before [] i w inside is none = absurd (omega (arith, inside))
short_word before (x ∷ xs) zero w inside is none = subst (λ (v : Vec ℕ Global). length v.items ≤ 255) (sym is) (fits before x.items (or_left (word_fault before x.items) _ none))
short_word before (x ∷ xs) (suc i) w inside is none =
    short_word (with_word before x.items) xs i w (omega (arith, inside)) is (or_right (word_fault before x.items) _ none)

-- the rows of a vocabulary are those of the bench that all its words open
pub rows_open : (s : Source) (words all : List (List ℕ)) (bytes : List ℕ) → IsVocabulary words all → bytes ≡ text_of_rows s words
    → (opening_fault [] all ≡ None) × (bytes ≡ stems_text (record { setting = under s default_limit; words = vocabulary all; count = length (vocabulary all) }))
unfolding stems_text
rows_open s words all bytes is written =
    (is.all_fine, written ∙ ap (λ (ws : List (List ℕ)). text_of_rows s ws) is.same)
