-- Two equal lists have no changes, and no class is both split and renamed.
use Rattle.std.proofs.Common.{◌≡◌, ◌∙◌, ◌⊎◌, ◌++◌, Bool, true, false, ℕ, List, [], ◌∷◌, map, Option, Some, None, cond, if◌then◌else◌, inl, inr, refl, sym, ap, ⊎_elim}
use Rattle.std.specs.List.{AllByRecursion, IsDistinct, cons_option, filter, filter_map, find}
use Rattle.std.specs.Option.{option_map}
use Rattle.std.specs.Ordering.{match_ordering}
use Rattle.std.specs.Str.{bytes_eq}
use Rattle.std.specs.BTreeSet.{insert_key}
use Rattle.std.proofs.lemmas.Cmp.{nat_list_cmp_total}
use Rattle.std.proofs.lemmas.Map.Lookups.{exact_bytes}
use Rattle.std.proofs.lemmas.Slice.Eq.{bytes_eq-Decides}
use denote.Enum.Bare.{true_same}
use Rattle.sbl_semantics.specs.contracts.fault.RunFault as fault
use Rattle.sbl_rows.specs.Changes.{Change, Changed, word_addition, outcome_change, class_merger, word_removal, class_renaming, class_split}
use Rattle.sbl_rows.specs.Classes.{Class, Pair, pair_class, pair_classes, in_order, members_of}
use Rattle.sbl_rows.specs.ChangesAreSound.{EqualListsHaveNoChanges, HasOneRowEach, NoClassIsSplitAndRenamed}
use Rattle.sbl_rows.specs.Moves.{move_of, moves_of, moves_back}
use Rattle.sbl_semantics.specs.Outcome.{Outcome', Stem, Refused}
use Rattle.sbl_rows.specs.Rows.{Row}
use Rattle.sbl_rows.specs.ChangedRows.{outcome_in, same_outcome}
use Rattle.sbl_rows.proofs.OrderFacts.{bytes_eq-back, text_cmp}
use Rattle.sbl_rows.proofs.Sorting.{self_equal}

bytes_eq-self : (t : List ℕ) → bytes_eq t t ≡ true
bytes_eq-self t = (bytes_eq-Decides t t).1 refl

pub none_made : {A B : Type 0} (h : A → Option B) (xs : List A) → AllByRecursion (λ x. h x ≡ None) xs → filter_map h xs ≡ []
none_made h [] a = refl
none_made h (x ∷ xs) a = (λ i. cons_option (a.0 i) (filter_map h xs)) ∙ none_made h xs a.1

pub each : {A : Type 0} (P Q : A → Type 0) → ((x : A) → P x → Q x) → (xs : List A) → AllByRecursion P xs → AllByRecursion Q xs
each P Q f [] a = tt
each P Q f (x ∷ xs) a = (f x a.0, each P Q f xs a.1)

-- ---- each word is found in its own row

abbrev pub HasOutcome : (List ℕ → Option Outcome') → Row → Type 0
HasOutcome f r = f r.word ≡ Some r.outcome

pub own_outcomes : (rows : List Row) → HasOneRowEach rows → AllByRecursion (HasOutcome (outcome_in rows)) rows
unfolding IsDistinct
own_outcomes [] one = tt
own_outcomes (r ∷ rows) one = ((λ i. option_map (λ (q : Row). q.outcome) (cond (bytes_eq-self r.word i) (Some r) (find (λ q. bytes_eq r.word q.word) rows))), later rows one.0 (own_outcomes rows one.1))
  where
    other : (q : Row) → bytes_eq r.word q.word ≡ false → HasOutcome (outcome_in rows) q → HasOutcome (outcome_in (r ∷ rows)) q
    other q apart known = (λ i. option_map (λ (p : Row). p.outcome) (cond ((bytes_eq-back q.word r.word ∙ apart) i) (Some r) (find (λ p. bytes_eq q.word p.word) rows))) ∙ known

    later : (qs : List Row) → AllByRecursion (λ w. bytes_eq r.word w ≡ false) (map (λ q. q.word) qs) → AllByRecursion (HasOutcome (outcome_in rows)) qs → AllByRecursion (HasOutcome (outcome_in (r ∷ rows))) qs
    later [] apart known = tt
    later (q ∷ qs) apart known = (other q apart.0 known.0, later qs apart.1 known.1)

same_self : (o : Outcome') → same_outcome o o ≡ true
same_self (Stem s) = bytes_eq-self s
same_self (Refused f) = true_same fault.the_type f f refl

-- ---- words that keep their stems

abbrev Stays : Pair → Type 0
Stays m = m.0 ≡ m.1

stays : (f : List ℕ → Option Outcome') (rows : List Row) → AllByRecursion (HasOutcome f) rows → AllByRecursion Stays (moves_of f rows)
stays f [] a = tt
stays f (r ∷ rows) a = at (f r.word) r.outcome a.0 (stays f rows a.1)
  where
    at : (x : Option Outcome') (o : Outcome') → x ≡ Some o → AllByRecursion Stays (moves_of f rows) → AllByRecursion Stays (cons_option (move_of x o) (moves_of f rows))
    at (Some (Stem s)) (Stem t) e rest = (cc e, rest)
    at (Some (Stem s)) (Refused n) e rest = rest
    at (Some (Refused m)) o e rest = rest
    at None o e rest = rest

turned-stays : (moves : List Pair) → AllByRecursion Stays moves → moves_back moves ≡ moves
turned-stays [] a = refl
turned-stays (m ∷ moves) a = λ i. (sym a.0 i, a.0 i) ∷ turned-stays moves a.1 i

alike : (s : List ℕ) (moves : List Pair) → AllByRecursion Stays moves → AllByRecursion (λ t. t ≡ s) (members_of s moves)
alike s [] a = tt
alike s (m ∷ moves) a = by (bytes_eq s m.0) refl (alike s moves a.1)
  where
    by : (b : Bool) → bytes_eq s m.0 ≡ b → AllByRecursion (λ t. t ≡ s) (members_of s moves) → AllByRecursion (λ t. t ≡ s) (map (λ p. p.1) (cond b (m ∷ filter (λ p. bytes_eq s p.0) moves) (filter (λ p. bytes_eq s p.0) moves)))
    by true e rest = (sym a.0 ∙ sym ((bytes_eq-Decides s m.0).0 e), rest)
    by false e rest = rest

pub alike_order : (s : List ℕ) (ts : List (List ℕ)) → AllByRecursion (λ t. t ≡ s) ts → (in_order ts ≡ []) ⊎ (in_order ts ≡ s ∷ [])
alike_order s [] a = inl refl
alike_order s (t ∷ ts) a = ⊎_elim
    (λ e. inr (λ i. insert_key text_cmp (e i) (a.0 i)))
    (λ e. inr ((λ i. insert_key text_cmp (e i) (a.0 i)) ∙ (λ i. match_ordering (self_equal text_cmp nat_list_cmp_total exact_bytes s i) (s ∷ s ∷ []) (s ∷ []) (s ∷ s ∷ []))))
    (alike_order s ts a.1)

module _ (moves : List Pair) (a : AllByRecursion Stays moves) where
  none_of : (h : Class → List (List ℕ) → Option Change) → ((c : Class) → h c [] ≡ None) → ((c : Class) → h c (c.stem ∷ []) ≡ None) → (ss : List (List ℕ)) → filter_map (λ c. h c c.members) (map (pair_class moves) ss) ≡ []
  none_of h empty one [] = refl
  none_of h empty one (s ∷ ss) = (λ i. cons_option (here i) (filter_map (λ c. h c c.members) (map (pair_class moves) ss))) ∙ none_of h empty one ss
    where
      class : Class
      class = pair_class moves s

      here : h class class.members ≡ None
      here = ⊎_elim (λ e. ap (h class) e ∙ empty class) (λ e. ap (h class) e ∙ one class) (alike_order s (members_of s moves) (alike s moves a))

  none_split : filter_map (λ c. class_split c c.members) (pair_classes moves) ≡ []
  none_split = none_of class_split (λ c. refl) (λ c. refl) (in_order (map (λ m. m.0) moves))

  none_merged : filter_map (λ c. class_merger c c.members) (pair_classes (moves_back moves)) ≡ []
  none_merged = ap (λ ms. filter_map (λ c. class_merger c c.members) (pair_classes ms)) (turned-stays moves a) ∙ none_of class_merger (λ c. refl) (λ c. refl) (in_order (map (λ m. m.0) moves))

  none_renamed : (new : List Class) → filter_map (λ c. class_renaming new c c.members) (pair_classes moves) ≡ []
  none_renamed new = none_of (class_renaming new) (λ c. refl) (λ c. rw (bytes_eq-self c.stem) refl) (in_order (map (λ m. m.0) moves))

pub no_changes : EqualListsHaveNoChanges
no_changes rows one =
    let known : AllByRecursion (HasOutcome (outcome_in rows)) rows = own_outcomes rows one in
    let still : AllByRecursion Stays (moves_of (outcome_in rows) rows) = stays (outcome_in rows) rows known in
    let no_added : filter_map (λ r. word_addition (outcome_in rows r.word) r) rows ≡ [] =
    none_made (λ r. word_addition (outcome_in rows r.word) r) rows (each (HasOutcome (outcome_in rows)) (λ r. word_addition (outcome_in rows r.word) r ≡ None) (λ r h. ap (λ o. word_addition o r) h) rows known) in
    let no_removed : filter_map (λ r. word_removal (outcome_in rows r.word) r) rows ≡ [] =
    none_made (λ r. word_removal (outcome_in rows r.word) r) rows (each (HasOutcome (outcome_in rows)) (λ r. word_removal (outcome_in rows r.word) r ≡ None) (λ r h. ap (λ o. word_removal o r) h) rows known) in
    let no_changed : filter_map (λ r. outcome_change (outcome_in rows r.word) r) rows ≡ [] =
    none_made (λ r. outcome_change (outcome_in rows r.word) r) rows (each (HasOutcome (outcome_in rows)) (λ r. outcome_change (outcome_in rows r.word) r ≡ None)
    (λ r h. ap (λ o. outcome_change o r) h ∙ unchanged r) rows known) in
    λ i. ((no_added i ++ no_removed i) ++ no_changed i)
    ++ ((none_split (moves_of (outcome_in rows) rows) still i ++ none_merged (moves_of (outcome_in rows) rows) still i)
    ++ none_renamed (moves_of (outcome_in rows) rows) still (pair_classes (moves_back (moves_of (outcome_in rows) rows))) i)
  where
    unchanged : (r : Row) → outcome_change (Some r.outcome) r ≡ None
    unchanged r = λ i. if same_self r.outcome i then None else Some (Changed r.word r.outcome r.outcome)

pub split_or_renamed : NoClassIsSplitAndRenamed
split_or_renamed new c = by c.members
  where
    by : (ms : List (List ℕ)) → (class_split c ms ≡ None) ⊎ (class_renaming new c ms ≡ None)
    by [] = inl refl
    by (m ∷ []) = inl refl
    by (m ∷ n ∷ ms) = inr refl
