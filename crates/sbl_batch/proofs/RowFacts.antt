-- The text of the rows of some words.
use Rattle.std.proofs.Common.{◌≡◌, ◌≢◌, ◌∙◌, ◌++◌, ℕ, List, [], ◌∷◌, refl, sym, ap, map}
use Rattle.std.proofs.lemmas.Grind.{flat_map-append}
use Rattle.std.proofs.lemmas.List.{append-nil, map-append}
use Rattle.std.proofs.lemmas.List.Elements.{filter-append}
use Rattle.std.proofs.lemmas.Str.{encodes-chars}
use Rattle.std.specs.List.{filter}
use Rattle.std.specs.Str.{IsUtf8, chars, encode_utf8_all}
use Rattle.sbl_rows.specs.Rows.{Row, row_of, rows_of}
use Rattle.sbl_rows.specs.Setting.{under}
use Rattle.sbl_batch.specs.Filter.{filter_output, is_filled}
use Rattle.sbl_semantics.specs.Limit.{default_limit}
use Rattle.sbl_semantics.specs.Outcome.{Outcome', run_of}
use Rattle.sbl_io.specs.Records.{record_line, records_text}
use Rattle.sbl_ast.specs.Source.{Source}
use Rattle.sbl_records.specs.RowRecords.{outcome_fields, row_fields}

pub filtered-none : (s : Source) → filter_output s [] ≡ []
unfolding filter_output
filtered-none s = refl

-- an empty word has no row
pub filtered-empty : (s : Source) (word : List ℕ) → word ≡ [] → filter_output s (word ∷ []) ≡ []
unfolding filter_output
filtered-empty s word e = rw e refl

pub filtered-one : (s : Source) (word : List ℕ) → word ≢ [] → filter_output s (word ∷ []) ≡ record_line (row_fields (row_of (under s default_limit) word))
unfolding filter_output
filtered-one s [] some = absurd (some refl)
filtered-one s (c ∷ word) some = append-nil (record_line (row_fields (row_of (under s default_limit) (c ∷ word))))

pub filtered-append : (s : Source) (a b : List (List ℕ)) → filter_output s (a ++ b) ≡ filter_output s a ++ filter_output s b
unfolding filter_output
filtered-append s a b =
    let u = under s default_limit in
    let x = filter is_filled a in
    let y = filter is_filled b in
    let fields : map row_fields (rows_of u (filter is_filled (a ++ b))) ≡ map row_fields (rows_of u x) ++ map row_fields (rows_of u y) =
    ap (λ (ws : List (List ℕ)). map row_fields (rows_of u ws)) (filter-append is_filled a b) ∙ ap (λ (rs : List Row). map row_fields rs) (map-append (row_of u) x y)
    ∙ map-append row_fields (rows_of u x) (rows_of u y) in
    ap records_text fields ∙ flat_map-append record_line (map row_fields (rows_of u x)) (map row_fields (rows_of u y))

-- the fields of a row
pub fields-are : (word : List ℕ) (o : Outcome') → row_fields (record { word = word; outcome = o }) ≡ encode_utf8_all word ∷ outcome_fields o
unfolding row_fields
fields-are word o = refl

-- the row of a word is that of its outcome
pub row-is : (s : Source) (word characters : List ℕ) (o : Outcome') → IsUtf8 word → characters ≡ chars word → o ≡ run_of s characters default_limit
    → word ∷ outcome_fields o ≡ row_fields (row_of (under s default_limit) (chars word))
row-is s word characters o text is ran =
    ap (λ (w : List ℕ). w ∷ outcome_fields o) (sym (encodes-chars word text))
    ∙ ap (λ (x : Outcome'). encode_utf8_all (chars word) ∷ outcome_fields x) (ran ∙ ap (λ (w : List ℕ). run_of s w default_limit) is)
    ∙ sym (fields-are (chars word) (run_of s (chars word) default_limit))
