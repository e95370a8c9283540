-- Reports of what changed: all changes, how many there are of each kind, and the first ones of each kind.
use Rattle.std.specs.Prelude.{ℕ, Bool, List, [], ◌∷◌, ◌++◌, codes, map, take}
use Rattle.std.specs.List.{count_by, filter}
use denote.Enum.Bare.{sameb}
use Rattle.sbl_bench.specs.Contents.{Contents, rows_now}
use Rattle.sbl_rows.specs.Changes.{Added, Change, Changed, Merged, Removed, Renamed, Split, changes_of}
use Rattle.sbl_rows.specs.Rows.{Row}
use Rattle.sbl_io.specs.Records.{records_text}
use Rattle.sbl_records.specs.ChangeRecords.{change_fields}
use Rattle.sbl_records.specs.FigureRecords.{figure_fields}
use Rattle.sbl_history.specs.declared.change_reports.ChangeKind.{ChangeKind}
use Rattle.sbl_history.specs.declared.change_reports.ChangeKind.TheVariants as kind
use Rattle.sbl_history.specs.contracts.change_reports.ChangeKind as kinds

-- a row for each change between some rows and those of the bench
abbrev pub changes_text : List Row → Contents → List ℕ
changes_text before s = records_text (map change_fields (changes_of before (rows_now s)))

abbrev pub kind_of : Change → ChangeKind
kind_of (Added word) = kind.Added
kind_of (Removed word) = kind.Removed
kind_of (Changed word before after) = kind.Changed
kind_of (Split stem into) = kind.Split
kind_of (Merged stem from) = kind.Merged
kind_of (Renamed before after) = kind.Renamed

-- the word that begins the row of a change, and that of a figure
abbrev pub kind_name : ChangeKind → List ℕ
kind_name kind.Added = codes "added"
kind_name kind.Removed = codes "removed"
kind_name kind.Changed = codes "changed"
kind_name kind.Split = codes "split"
kind_name kind.Merged = codes "merged"
kind_name kind.Renamed = codes "renamed"

abbrev pub is_of : ChangeKind → Change → Bool
is_of k change = sameb kinds.the_type k (kind_of change)

-- ---- how many

abbrev pub kind_figure : List Change → ChangeKind → List (List ℕ)
kind_figure changes k = figure_fields (kind_name k) (count_by (is_of k) changes)

-- those of three kinds
abbrev pub three_figures : List Change → ChangeKind → ChangeKind → ChangeKind → List (List (List ℕ))
three_figures changes a b c = kind_figure changes a ∷ kind_figure changes b ∷ kind_figure changes c ∷ []

abbrev pub word_kind_figures : List Change → List (List (List ℕ))
word_kind_figures changes = three_figures changes kind.Added kind.Removed kind.Changed

abbrev pub class_kind_figures : List Change → List (List (List ℕ))
class_kind_figures changes = three_figures changes kind.Split kind.Merged kind.Renamed

-- a row for each kind, with the number of its changes between some rows and those of the bench
unfoldable pub change_figures_text : List Row → Contents → List ℕ
change_figures_text before s =
    records_text (word_kind_figures (changes_of before (rows_now s)) ++ class_kind_figures (changes_of before (rows_now s)))

-- ---- the first ones

-- the first n changes of a kind
abbrev pub first_of_kind : ℕ → List Change → ChangeKind → List Change
first_of_kind n changes k = take n (filter (is_of k) changes)

-- those of three kinds
abbrev pub first_of_three : ℕ → List Change → ChangeKind → ChangeKind → ChangeKind → List Change
first_of_three n changes a b c = first_of_kind n changes a ++ (first_of_kind n changes b ++ first_of_kind n changes c)

abbrev pub first_word_changes : ℕ → List Change → List Change
first_word_changes n changes = first_of_three n changes kind.Added kind.Removed kind.Changed

abbrev pub first_class_changes : ℕ → List Change → List Change
first_class_changes n changes = first_of_three n changes kind.Split kind.Merged kind.Renamed

-- the rows of the first n changes of each kind
unfoldable pub first_changes_text : ℕ → List Row → Contents → List ℕ
first_changes_text n before s =
    records_text (map change_fields (first_word_changes n (changes_of before (rows_now s)) ++ first_class_changes n (changes_of before (rows_now s))))
