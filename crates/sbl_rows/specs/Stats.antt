-- Figures about rows and their classes.
use Rattle.std.specs.Prelude.{ℕ, Bool, true, false, List, [], ◌∷◌, length, max}
use Rattle.std.specs.List.{count_by}
use Rattle.std.specs.Str.{bytes_eq}
use Rattle.sbl_rows.specs.declared.figures.RowStats as declared
use Rattle.sbl_rows.specs.Changes.{is_one}
use Rattle.sbl_rows.specs.Classes.{Class, classes_of}
use Rattle.sbl_semantics.specs.Outcome.{Outcome', Stem, Refused}
use Rattle.sbl_rows.specs.Rows.{Row}

abbrev pub is_refused : Outcome' → Bool
is_refused (Stem s) = false
is_refused (Refused n) = true

-- whether the outcome is this word as its own stem
abbrev pub is_itself : List ℕ → Outcome' → Bool
is_itself word (Stem s) = bytes_eq word s
is_itself word (Refused n) = false

-- the number of words in the largest class; 0 if there is none
abbrev pub largest_size : List Class → ℕ
largest_size [] = 0
largest_size (c ∷ classes) = max (length c.members) (largest_size classes)

pub record Stats : Type 0 where
  pub words : ℕ
  pub refused : ℕ
  pub classes : ℕ
  pub alone : ℕ
  pub largest : ℕ
  pub unchanged : ℕ

-- the figures about rows, whose classes these are
abbrev pub stats_in : List Row → List Class → Stats
stats_in rows classes = record {
  words = length rows;
  refused = count_by (λ r. is_refused r.outcome) rows;
  classes = length classes;
  alone = count_by (λ c. is_one c.members) classes;
  largest = largest_size classes;
  unchanged = count_by (λ r. is_itself r.word r.outcome) rows;
}

abbrev pub stats_of : List Row → Stats
stats_of rows = stats_in rows (classes_of rows)

abbrev pub view_stats : declared.RowStats → Stats
view_stats s = record { words = s.words; refused = s.refused; classes = s.classes; alone = s.alone; largest = s.largest; unchanged = s.unchanged }
