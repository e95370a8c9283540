-- The words of rows.
use Rattle.std.proofs.Common.{◌≡◌, ◌∙◌, ◌∷◌, ℕ, List, [], map, refl, ap}
use Rattle.sbl_rows.specs.Rows.{Row, rows_of, view_row}
use Rattle.sbl_rows.specs.Setting.{Setting}
use Rattle.sbl_rows.specs.declared.row.Row as declared

abbrev pub row_word : declared.Row → List ℕ
row_word r = r.word.now

of_rows : (rows : List declared.Row) → map row_word rows ≡ map (λ (r : Row). r.word) (map view_row rows)
of_rows [] = refl
of_rows (r ∷ rows) = ap (λ l. r.word.now ∷ l) (of_rows rows)

of_words : (s : Setting) (words : List (List ℕ)) → map (λ (r : Row). r.word) (rows_of s words) ≡ words
of_words s [] = refl
of_words s (w ∷ words) = ap (λ l. w ∷ l) (of_words s words)

pub words_are : (s : Setting) (words : List (List ℕ)) (rows : List declared.Row) → map view_row rows ≡ rows_of s words → map row_word rows ≡ words
words_are s words rows e = of_rows rows ∙ ap (map (λ (r : Row). r.word)) e ∙ of_words s words
