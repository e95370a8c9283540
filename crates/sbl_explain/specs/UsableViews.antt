-- What the code's values stand for that say what a run can use.
use Rattle.std.specs.Prelude.{◌≡◌, ◌++◌, ℕ, true, List, [], ◌∷◌, decimal, map}
use Rattle.std.specs.List.{list_all}
use Rattle.sbl_rows.specs.Rows.{Row}
use Rattle.sbl_bench.specs.KeptRuns.{KeptRuns, setting_of}
use Rattle.sbl_io.specs.Records.{records_text}
use Rattle.sbl_uses.specs.Counts.{count_row, usable_row}
use Rattle.sbl_uses.specs.UsableViews.{is_defined, view_usable}
use Rattle.sbl_uses.specs.Used.{Usable, number_using, rows_using}
use Rattle.sbl_explain.specs.declared.counts.Count.{Count}
use Rattle.sbl_uses.specs.declared.usables.Usable as declared

-- the script of a bench defines it
abbrev pub Defines : KeptRuns → Usable → Type 0
Defines bench u = is_defined (setting_of bench).script u ≡ true

abbrev pub AreDefined : KeptRuns → List Usable → Type 0
AreDefined bench usables = list_all (is_defined (setting_of bench).script) usables ≡ true

-- ---- the words of a bench

abbrev pub rows_for : KeptRuns → Usable → List Row
rows_for bench u = rows_using (setting_of bench) bench.words u

abbrev pub number_for : KeptRuns → Usable → ℕ
number_for bench u = number_using (setting_of bench) bench.words u

abbrev pub row_for : KeptRuns → Usable → List (List ℕ)
row_for bench u = count_row (setting_of bench) bench.words u

-- the rows of some parts
abbrev pub rows_text : KeptRuns → List Usable → List ℕ
rows_text bench us = records_text (map (row_for bench) us)

abbrev pub next_row : KeptRuns → declared.Usable → List (List ℕ)
next_row bench usable = row_for bench (view_usable usable)

-- the row of a part with its number of words
abbrev pub number_row : Count → List (List ℕ)
number_row c = usable_row (view_usable c.usable) ++ decimal c.words ∷ []

abbrev pub number_rows : List Count → List (List (List ℕ))
number_rows counts = map number_row counts
