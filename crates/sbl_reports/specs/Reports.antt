-- The reports of work: figures, and the largest classes.
use Rattle.std.specs.Prelude.{ℕ, List, [], ◌∷◌, ◌++◌, codes, decimal, map}
use Rattle.sbl_bench.specs.Contents.{Contents, rows_now}
use Rattle.sbl_rows.specs.Largest.{largest_of}
use Rattle.sbl_rows.specs.Stats.{Stats, stats_of}
use Rattle.sbl_io.specs.Records.{records_text}
use Rattle.sbl_records.specs.FigureRecords.{figure_fields}
use Rattle.sbl_records.specs.RowRecords.{class_fields}

-- ---- figures

abbrev pub word_figures : Stats → List (List (List ℕ))
word_figures s = figure_fields (codes "words") s.words ∷ figure_fields (codes "refused") s.refused ∷ []

abbrev pub class_figures : Stats → List (List (List ℕ))
class_figures s =
    figure_fields (codes "classes") s.classes ∷ figure_fields (codes "alone") s.alone ∷ figure_fields (codes "largest") s.largest ∷ []

abbrev pub stats_fields : Stats → ℕ → List (List (List ℕ))
stats_fields s runs =
    word_figures s ++ (class_figures s ++ figure_fields (codes "unchanged") s.unchanged ∷ figure_fields (codes "runs") runs ∷ [])

abbrev pub stats_text : Contents → List ℕ
stats_text s = records_text (stats_fields (stats_of (rows_now s)) s.count)

-- ---- the largest classes

-- a row for each of the n largest classes
abbrev pub largest_text : ℕ → Contents → List ℕ
largest_text n s = records_text (map class_fields (largest_of n (rows_now s)))
