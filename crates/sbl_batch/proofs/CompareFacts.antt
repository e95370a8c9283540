-- The number of words that changed.
use Rattle.std.proofs.Common.{◌≡◌, ◌∙◌, ◌++◌, ℕ, suc, Bool, true, false, List, [], ◌∷◌, Option, Some, None, length, refl, sym, ap}
use Rattle.std.proofs.lemmas.List.{append-nil}
use Rattle.std.proofs.lemmas.List.Elements.{filter-append}
use Rattle.std.proofs.lemmas.List.Sums.{length-filter}
use Rattle.std.specs.Prelude.{⊤, if◌then◌else◌}
use Rattle.std.specs.List.{cons_option, count_by, filter, filter_map}
use Rattle.std.specs.Option.{option_and_then}
use Rattle.std.specs.Str.{bytes_eq}
use Rattle.sbl_batch.specs.Comparing.{is_changed}
use Rattle.sbl_rows.specs.ChangedRows.{changed_rows, if_changed, outcome_in, same_outcome}
use Rattle.sbl_rows.specs.Changes.{Change, Changed, Renamed, changes_by, changes_of, class_merger, class_renaming, class_split, is_from_one, outcome_change}
use Rattle.sbl_rows.specs.Changes.{word_addition, word_removal}
use Rattle.sbl_rows.specs.Classes.{Class, Pair}
use Rattle.sbl_rows.specs.Moves.{moves_of, new_classes, old_classes}
use Rattle.sbl_rows.specs.Rows.{Row}
use Rattle.sbl_semantics.specs.Outcome.{Outcome'}

-- it is no change of a word's outcome
abbrev IsOther : Option Change → Type 0
IsOther None = ⊤
IsOther (Some c) = is_changed c ≡ false

none_among : {X : Type 0} (h : X → Option Change) → ((x : X) → IsOther (h x)) → (xs : List X) → filter is_changed (filter_map h xs) ≡ []
none_among h other [] = refl
none_among h other (x ∷ xs) = by (h x) (other x) (none_among h other xs)
  where
    by : (o : Option Change) → IsOther o → filter is_changed (filter_map h xs) ≡ [] → filter is_changed (cons_option o (filter_map h xs)) ≡ []
    by None k rest = rest
    by (Some c) k rest = rw k rest

without_first : (xs ys : List Change) → filter is_changed xs ≡ [] → filter is_changed (xs ++ ys) ≡ filter is_changed ys
without_first xs ys e = filter-append is_changed xs ys ∙ ap (λ (l : List Change). l ++ filter is_changed ys) e

without_last : (xs ys : List Change) → filter is_changed ys ≡ [] → filter is_changed (xs ++ ys) ≡ filter is_changed xs
without_last xs ys e = filter-append is_changed xs ys ∙ ap (λ (l : List Change). filter is_changed xs ++ l) e ∙ append-nil (filter is_changed xs)

none_in_both : (xs ys : List Change) → filter is_changed xs ≡ [] → filter is_changed ys ≡ [] → filter is_changed (xs ++ ys) ≡ []
none_in_both xs ys e f = without_first xs ys e ∙ f

-- ---- changes of other kinds

other_addition : (o : Option Outcome') (r : Row) → IsOther (word_addition o r)
other_addition None r = refl
other_addition (Some o) r = tt

other_removal : (o : Option Outcome') (r : Row) → IsOther (word_removal o r)
other_removal None r = refl
other_removal (Some o) r = tt

other_split : (c : Class) (stems : List (List ℕ)) → IsOther (class_split c stems)
other_split c [] = tt
other_split c (n ∷ []) = tt
other_split c (n ∷ m ∷ ns) = refl

other_merger : (c : Class) (stems : List (List ℕ)) → IsOther (class_merger c stems)
other_merger c [] = tt
other_merger c (n ∷ []) = tt
other_merger c (n ∷ m ∷ ns) = refl

other_renaming : (now : List Class) (c : Class) (stems : List (List ℕ)) → IsOther (class_renaming now c stems)
other_renaming now c [] = tt
other_renaming now c (n ∷ []) = by (bytes_eq c.stem n) (is_from_one now n)
  where
    by : (s t : Bool) → IsOther (if s then None else (if t then Some (Renamed c.stem n) else None))
    by true t = tt
    by false true = refl
    by false false = tt
other_renaming now c (n ∷ m ∷ ns) = tt

no_class : (moves : List Pair) → filter is_changed (changes_by moves) ≡ []
no_class moves =
    let old = old_classes moves in
    let now = new_classes moves in
    let splits : List Change = filter_map (λ c. class_split c c.members) old in
    let mergers : List Change = filter_map (λ c. class_merger c c.members) now in
    let renamings : List Change = filter_map (λ c. class_renaming now c c.members) old in
    let no_merger = none_among (λ (c : Class). class_merger c c.members) (λ c. other_merger c c.members) now in
    none_in_both (splits ++ mergers) renamings
    (none_in_both splits mergers (none_among (λ (c : Class). class_split c c.members) (λ c. other_split c c.members) old) no_merger)
    (none_among (λ (c : Class). class_renaming now c c.members) (λ c. other_renaming now c c.members) old)

-- ---- changed words

abbrev changes_in : (before rows : List Row) → List Change
changes_in before rows = filter_map (λ r. outcome_change (outcome_in before r.word) r) rows

one_each : (before rows : List Row) → length (filter is_changed (changes_in before rows)) ≡ length (changed_rows before rows)
one_each before [] = refl
one_each before (r ∷ rows) = by (outcome_in before r.word) (one_each before rows)
  where
    pick : (o : Outcome') (t : Bool) → length (filter is_changed (changes_in before rows)) ≡ length (changed_rows before rows)
        → length (filter is_changed (cons_option (if t then None else Some (Changed r.word o r.outcome)) (changes_in before rows)))
        ≡ length (cons_option (if t then None else Some (record { word = r.word; before = o; after = r.outcome })) (changed_rows before rows))
    pick o true rest = rest
    pick o false rest = ap suc rest

    by : (o : Option Outcome') → length (filter is_changed (changes_in before rows)) ≡ length (changed_rows before rows)
        → length (filter is_changed (cons_option (outcome_change o r) (changes_in before rows)))
        ≡ length (cons_option (option_and_then (λ p. if_changed r.word p r.outcome) o) (changed_rows before rows))
    by None rest = rest
    by (Some o) rest = pick o (same_outcome o r.outcome) rest

-- as many words have a change as have another outcome
pub changed-counted : (before after : List Row) → count_by is_changed (changes_of before after) ≡ length (changed_rows before after)
changed-counted before after =
    let added : List Change = filter_map (λ r. word_addition (outcome_in before r.word) r) after in
    let removed : List Change = filter_map (λ r. word_removal (outcome_in after r.word) r) before in
    let classes = changes_by (moves_of (outcome_in before) after) in
    let no_word : filter is_changed (added ++ removed) ≡ [] =
    none_in_both added removed
    (none_among (λ (r : Row). word_addition (outcome_in before r.word) r) (λ r. other_addition (outcome_in before r.word) r) after)
    (none_among (λ (r : Row). word_removal (outcome_in after r.word) r) (λ r. other_removal (outcome_in after r.word) r) before) in
    let only : filter is_changed (changes_of before after) ≡ filter is_changed (changes_in before after) =
    without_last ((added ++ removed) ++ changes_in before after) classes (no_class (moves_of (outcome_in before) after))
    ∙ without_first (added ++ removed) (changes_in before after) no_word in
    sym (length-filter is_changed (changes_of before after)) ∙ ap length only ∙ one_each before after
