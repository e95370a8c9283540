use Rattle.std.proofs.Common.{◌≡◌, ◌∙◌, IfOk, List, [], ◌∷◌, ℕ, map, refl, ap, subst}
use Rattle.sbl_bench.specs.KeptRuns.{setting_of}
use Rattle.sbl_rows.specs.Rows.{Row, row_of, view_rows}
use Rattle.sbl_rows.specs.Setting.{Setting}
use Rattle.sbl_rows.specs.StemRows.{rows_with}
use Rattle.sbl_history.specs.Desks.{view_marked}
use Rattle.sbl_history.proofs.marks.rows_of_stems.Goals as goal

words_of : (s : Setting) (words : List (List ℕ)) → map (λ (r : Row). r.word) (map (row_of s) words) ≡ words
words_of s [] = refl
words_of s (w ∷ words) = ap (λ (ws : List (List ℕ)). w ∷ ws) (words_of s words)

pub returns : goal.returns
returns c =
    let words = (λ i. map (λ (r : Row). r.word) (view_rows (c.deref.ensures.value i))) ∙ ap (map (λ (r : Row). r.word)) c.in_ok-rows.ensures ∙ words_of (setting_of c.args.bench.now) c.args.bench.now.words in
    subst (λ (ws : List (List ℕ)). IfOk c.replace_stems.result (λ marked. map view_marked marked.items ≡ rows_with ws (map (λ s. s.items) c.args.stems.now))) words c.replace_stems.ensures
