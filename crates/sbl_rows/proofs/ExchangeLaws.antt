-- If the lists are exchanged, each change is told the other way.
use Rattle.std.proofs.Common.{◌≡◌, ◌∙◌, ◌||◌, ◌&&◌, ◌++◌, Bool, true, false, not, cond, ℕ, List, [], ◌∷◌, map, Option, Some, None, if◌then◌else◌, refl, sym, ap}
use Rattle.std.specs.List.{AllByRecursion, cons_option, filter_map, find, list_any}
use Rattle.std.specs.Option.{option_map}
use Rattle.std.specs.Ordering.{is_eq}
use Rattle.std.specs.Str.{bytes_eq}
use Rattle.std.proofs.lemmas.Slice.Eq.{bytes_eq-Decides}
use denote.Enum.Bare.{same_true, sameb, true_same}
use Rattle.sbl_semantics.specs.contracts.fault.RunFault as fault
use Rattle.sbl_semantics.specs.declared.fault.RunFault.{RunFault}
use Rattle.sbl_rows.specs.Changes.{Change, Changed, Renamed, word_addition, outcome_change, is_from_one, is_one, class_merger, word_removal, class_renaming, class_split}
use Rattle.sbl_rows.specs.ChangesAreSound.{ExchangedListsTurnChanges, HasOneRowEach, other_way}
use Rattle.sbl_rows.specs.Classes.{Class, Pair, pair_class, pair_classes, in_order, members_of}
use Rattle.sbl_rows.specs.Moves.{move_of, moves_of, moves_back}
use Rattle.sbl_semantics.specs.Outcome.{Outcome', Refused, Stem}
use Rattle.sbl_rows.specs.Rows.{Row}
use Rattle.sbl_rows.specs.ChangedRows.{outcome_in, same_outcome}
use Rattle.sbl_rows.proofs.ChangeLaws.{HasOutcome, each, own_outcomes}
use Rattle.sbl_rows.proofs.ClassLaws.{any-class, any-given, any-map, any-same, some_stem}
use Rattle.sbl_rows.proofs.OrderFacts.{any-in_order, any-members, any-stems, bytes_eq-back, one_order, text_cmp}

-- ---- tests of lists

abbrev passes : {A : Type 0} → (A → Bool) → Option A → Bool
passes test None = false
passes test (Some x) = test x

any-append : {A : Type 0} (test : A → Bool) (xs ys : List A) → list_any test (xs ++ ys) ≡ (list_any test xs || list_any test ys)
any-append test [] ys = refl
any-append test (x ∷ xs) ys = ap (λ (b : Bool). test x || b) (any-append test xs ys) ∙ regroup (test x) (list_any test xs) (list_any test ys)
  where
    regroup : (a b c : Bool) → (a || (b || c)) ≡ ((a || b) || c)
    regroup true b c = refl
    regroup false b c = refl

any-made : {A B : Type 0} (test : B → Bool) (h : A → Option B) (xs : List A) → list_any test (filter_map h xs) ≡ list_any (λ x. passes test (h x)) xs
any-made {B = B} test h [] = refl
any-made {B = B} test h (x ∷ xs) = by (h x) (any-made test h xs)
  where
    by : (o : Option B) → list_any test (filter_map h xs) ≡ list_any (λ x. passes test (h x)) xs → list_any test (cons_option o (filter_map h xs)) ≡ (passes test o || list_any (λ x. passes test (h x)) xs)
    by None rest = rest
    by (Some y) rest = ap (λ (b : Bool). test y || b) rest

-- two lists of what is made of the same items, told alike
alike : {A B : Type 0} (test other : B → Bool) (g h : A → Option B) → ((x : A) → passes test (g x) ≡ passes other (h x)) → (xs : List A) → list_any test (filter_map g xs) ≡ list_any other (filter_map h xs)
alike test other g h same xs = any-made test g xs ∙ any-same (λ x. passes test (g x)) (λ x. passes other (h x)) same xs ∙ sym (any-made other h xs)

abbrev back : (Change → Bool) → Change → Bool
back test c = test (other_way c)

-- ---- words of both lists

-- a property of a word, its outcome before and its outcome after
abbrev Of : Type 0
Of = List ℕ → Outcome' → Outcome' → Bool

abbrev with_other : Of → Option Outcome' → Row → Bool
with_other g None r = false
with_other g (Some o) r = g r.word o r.outcome

abbrev swap_sides : Of → Of
swap_sides g w n o = g w o n

some_row : (t : Row → Bool) (w : List ℕ) (o : Outcome') → ((q : Row) → q.word ≡ w → q.outcome ≡ o → t q ≡ true) → (rows : List Row) → outcome_in rows w ≡ Some o → list_any t rows ≡ true
some_row t w o f [] e = cc e
some_row t w o f (q ∷ rows) e = by (bytes_eq w q.word) refl e (some_row t w o f rows)
  where
    or_true : (b : Bool) → (b || true) ≡ true
    or_true true = refl
    or_true false = refl

    by : (b : Bool) → bytes_eq w q.word ≡ b → option_map (λ (r : Row). r.outcome) (cond b (Some q) (find (λ r. bytes_eq w r.word) rows)) ≡ Some o
        → (outcome_in rows w ≡ Some o → list_any t rows ≡ true) → (t q || list_any t rows) ≡ true
    by true g e rest = let same : q.outcome ≡ o = cc e in ap (λ (b : Bool). b || list_any t rows) (f q (sym ((bytes_eq-Decides w q.word).0 g)) same)
    by false g e rest = ap (λ (b : Bool). t q || b) (rest e) ∙ or_true (t q)

half : (before after : List Row) (g : Of) (rs : List Row) → AllByRecursion (HasOutcome (outcome_in after)) rs
    → list_any (λ r. with_other g (outcome_in before r.word) r) rs ≡ true → list_any (λ r. with_other (swap_sides g) (outcome_in after r.word) r) before ≡ true
half before after g [] a e = cc e
half before after g (r ∷ rs) a e = by (outcome_in before r.word) refl e (half before after g rs a.1)
  where
    there : (o : Outcome') (q : Row) → g r.word o r.outcome ≡ true → q.word ≡ r.word → q.outcome ≡ o → with_other (swap_sides g) (outcome_in after q.word) q ≡ true
    there o q h w e =
        ap (λ (x : Option Outcome'). with_other (swap_sides g) x q) (ap (outcome_in after) w ∙ a.0)
        ∙ (λ i. g (w i) (e i) r.outcome) ∙ h

    by : (x : Option Outcome') → outcome_in before r.word ≡ x → (with_other g x r || list_any (λ q. with_other g (outcome_in before q.word) q) rs) ≡ true
        → (list_any (λ q. with_other g (outcome_in before q.word) q) rs ≡ true → list_any (λ q. with_other (swap_sides g) (outcome_in after q.word) q) before ≡ true)
        → list_any (λ q. with_other (swap_sides g) (outcome_in after q.word) q) before ≡ true
    by None f e rest = rest e
    by (Some o) f e rest = at (g r.word o r.outcome) refl e
      where
        at : (b : Bool) → g r.word o r.outcome ≡ b → (b || list_any (λ q. with_other g (outcome_in before q.word) q) rs) ≡ true → list_any (λ q. with_other (swap_sides g) (outcome_in after q.word) q) before ≡ true
        at true h e = some_row (λ q. with_other (swap_sides g) (outcome_in after q.word) q) r.word o (λ q w s. there o q h w s) before f
        at false h e = rest e

both : (a b : Bool) → (a ≡ true → b ≡ true) → (b ≡ true → a ≡ true) → a ≡ b
both true b f g = sym (f refl)
both false true f g = g refl
both false false f g = refl

exchange_sides : (before after : List Row) → HasOneRowEach before → HasOneRowEach after → (g : Of)
    → list_any (λ r. with_other g (outcome_in before r.word) r) after ≡ list_any (λ r. with_other (swap_sides g) (outcome_in after r.word) r) before
exchange_sides before after one other g =
    both (list_any (λ r. with_other g (outcome_in before r.word) r) after) (list_any (λ r. with_other (swap_sides g) (outcome_in after r.word) r) before)
    (half before after g after (own_outcomes after other)) (half after before (swap_sides g) before (own_outcomes before one))

-- ---- classes depend on which pairs there are alone

classes-same : (ps qs : List Pair) → ((t : Pair → Bool) → list_any t ps ≡ list_any t qs) → pair_classes ps ≡ pair_classes qs
classes-same ps qs h =
    ap (map (pair_class ps)) (one_order (map (λ p. p.0) ps) (map (λ p. p.0) qs) (λ q. any-stems (λ x. is_eq (text_cmp q x)) ps ∙ h (λ p. is_eq (text_cmp q p.0)) ∙ sym (any-stems (λ x. is_eq (text_cmp q x)) qs)))
    ∙ each (in_order (map (λ p. p.0) qs))
  where
    members : (s : List ℕ) → in_order (members_of s ps) ≡ in_order (members_of s qs)
    members s = one_order (members_of s ps) (members_of s qs) (λ q. any-members (λ x. is_eq (text_cmp q x)) s ps ∙ h (λ p. bytes_eq s p.0 && is_eq (text_cmp q p.1)) ∙ sym (any-members (λ x. is_eq (text_cmp q x)) s qs))

    each : (ss : List (List ℕ)) → map (pair_class ps) ss ≡ map (pair_class qs) ss
    each [] = refl
    each (s ∷ ss) = λ i. record { stem = s; members = members s i } ∷ each ss i

abbrev flip : Pair → Pair
flip m = (m.1, m.0)

abbrev of_moves : (Pair → Bool) → Of
of_moves t w o n = passes t (move_of (Some o) n)

moves-same : (t : Pair → Bool) (f : List ℕ → Option Outcome') (rows : List Row) → list_any t (moves_of f rows) ≡ list_any (λ r. with_other (of_moves t) (f r.word) r) rows
moves-same t f rows = any-made t (λ r. move_of (f r.word) r.outcome) rows ∙ any-same (λ r. passes t (move_of (f r.word) r.outcome)) (λ r. with_other (of_moves t) (f r.word) r) (λ r. by (f r.word) r) rows
  where
    by : (x : Option Outcome') (r : Row) → passes t (move_of x r.outcome) ≡ with_other (of_moves t) x r
    by None r = refl
    by (Some o) r = refl

-- the moves of the exchanged lists are the turned ones
moves-turned : (before after : List Row) → HasOneRowEach before → HasOneRowEach after → (t : Pair → Bool) → list_any t (moves_of (outcome_in before) after) ≡ list_any (λ m. t (flip m)) (moves_of (outcome_in after) before)
moves-turned before after one other t =
    moves-same t (outcome_in before) after
    ∙ exchange_sides before after one other (of_moves t)
    ∙ any-same (λ r. with_other (swap_sides (of_moves t)) (outcome_in after r.word) r) (λ r. with_other (of_moves (λ m. t (flip m))) (outcome_in after r.word) r) (λ r. by (outcome_in after r.word) r) before
    ∙ sym (moves-same (λ m. t (flip m)) (outcome_in after) before)
  where
    at : (o n : Outcome') → passes t (move_of (Some o) n) ≡ passes (λ m. t (flip m)) (move_of (Some n) o)
    at (Stem o) (Stem n) = refl
    at (Stem o) (Refused n) = refl
    at (Refused o) (Stem n) = refl
    at (Refused o) (Refused n) = refl

    by : (x : Option Outcome') (r : Row) → with_other (swap_sides (of_moves t)) x r ≡ with_other (of_moves (λ m. t (flip m))) x r
    by None r = refl
    by (Some n) r = at r.outcome n

-- ---- the kinds of changes

either_way : (test : Change → Bool) (c : Class) (ms : List (List ℕ))
    → (passes test (class_split c ms) ≡ passes (back test) (class_merger c ms)) × (passes test (class_merger c ms) ≡ passes (back test) (class_split c ms))
either_way test c [] = (refl, refl)
either_way test c (m ∷ []) = (refl, refl)
either_way test c (m ∷ n ∷ ms) = (refl, refl)

split-merged : (test : Change → Bool) (classes : List Class) → list_any test (filter_map (λ c. class_split c c.members) classes) ≡ list_any (back test) (filter_map (λ c. class_merger c c.members) classes)
split-merged test classes = alike test (back test) (λ c. class_split c c.members) (λ c. class_merger c c.members) (λ c. (either_way test c c.members).0) classes

merged-split : (test : Change → Bool) (classes : List Class) → list_any test (filter_map (λ c. class_merger c c.members) classes) ≡ list_any (back test) (filter_map (λ c. class_split c c.members) classes)
merged-split test classes = alike test (back test) (λ c. class_merger c c.members) (λ c. class_split c c.members) (λ c. (either_way test c c.members).1) classes

-- ---- renamed classes

-- two tests that are the same for each item of the list
any-same-in : {A : Type 0} (s t : A → Bool) (xs : List A) → AllByRecursion (λ x. s x ≡ t x) xs → list_any s xs ≡ list_any t xs
any-same-in s t [] a = refl
any-same-in s t (x ∷ xs) a = λ i. a.0 i || any-same-in s t xs a.1 i

-- a test that an item passes has some item that passes
abbrev Passes : {A : Type 0} → List A → A → Type 0
Passes {A = A} xs x = (t : A → Bool) → t x ≡ true → list_any t xs ≡ true

inside : {A : Type 0} (xs : List A) → AllByRecursion (Passes xs) xs
inside [] = tt
inside {A = A} (x ∷ xs) = ((λ t e. ap (λ (b : Bool). b || list_any t xs) e), each (Passes xs) (Passes (x ∷ xs)) later xs (inside xs))
  where
    or_true : (b : Bool) → (b || true) ≡ true
    or_true true = refl
    or_true false = refl

    later : (y : A) → Passes xs y → Passes (x ∷ xs) y
    later y f t e = ap (λ (b : Bool). t x || b) (f t e) ∙ or_true (t x)

abbrev has_one : List Pair → List ℕ → Bool
has_one pairs stem = is_one (in_order (members_of stem pairs))

-- a class of these pairs with this stem and one member, if a pair has the stem
from-one : (pairs : List Pair) (stem : List ℕ) → some_stem stem pairs ≡ true → is_from_one (pair_classes pairs) stem ≡ has_one pairs stem
from-one pairs stem there =
    any-map (pair_class pairs) (λ c. bytes_eq c.stem stem && is_one c.members) (in_order (map (λ p. p.0) pairs))
    ∙ any-in_order (λ s. bytes_eq s stem && has_one pairs s) (map (λ p. p.0) pairs)
    ∙ any-stems (λ s. bytes_eq s stem && has_one pairs s) pairs
    ∙ any-same (λ p. bytes_eq p.0 stem && has_one pairs p.0) (λ p. bytes_eq stem p.0 && has_one pairs p.0) (λ p. ap (λ (b : Bool). b && has_one pairs p.0) (bytes_eq-back p.0 stem)) pairs
    ∙ any-given (has_one pairs) stem pairs
    ∙ ap (λ (b : Bool). b && has_one pairs stem) there

-- the pair's stem has one member alone, and so does its member in the other pairs
abbrev is_renamed : List Pair → List Pair → Pair → Bool
is_renamed ps qs p = not (bytes_eq p.0 p.1) && (has_one ps p.0 && has_one qs p.1)

renamed-pairs : (test : Change → Bool) (ps qs : List Pair) → ((t : Pair → Bool) → list_any t qs ≡ list_any (λ p. t (flip p)) ps)
    → list_any test (filter_map (λ c. class_renaming (pair_classes qs) c c.members) (pair_classes ps)) ≡ list_any (λ p. is_renamed ps qs p && test (Renamed p.0 p.1)) ps
renamed-pairs test ps qs h =
    any-made test (λ c. class_renaming (pair_classes qs) c c.members) (pair_classes ps)
    ∙ any-map (pair_class ps) (λ c. passes test (class_renaming (pair_classes qs) c c.members)) (in_order (map (λ p. p.0) ps))
    ∙ any-in_order made (map (λ p. p.0) ps)
    ∙ any-stems made ps
    ∙ any-same-in (λ p. made p.0) (λ p. is_renamed ps qs p && test (Renamed p.0 p.1)) ps (each (Passes ps) (λ p. made p.0 ≡ (is_renamed ps qs p && test (Renamed p.0 p.1))) here ps (inside ps))
  where
    made : List ℕ → Bool
    made s = passes test (class_renaming (pair_classes qs) (pair_class ps s) (in_order (members_of s ps)))

    -- a class of one member
    alone : (p : Pair) (same one : Bool) → passes test (if same then None else (if one then Some (Renamed p.0 p.1) else None)) ≡ ((not same && one) && test (Renamed p.0 p.1))
    alone p true one = refl
    alone p false true = refl
    alone p false false = refl

    at : (p : Pair) → some_stem p.1 qs ≡ true → (ms : List (List ℕ)) → list_any (bytes_eq p.1) ms ≡ true
        → passes test (class_renaming (pair_classes qs) (pair_class ps p.0) ms) ≡ ((not (bytes_eq p.0 p.1) && (is_one ms && has_one qs p.1)) && test (Renamed p.0 p.1))
    at p there [] e = cc e
    at p there (n ∷ []) e =
        ap (λ (m : List ℕ). passes test (class_renaming (pair_classes qs) (pair_class ps p.0) (m ∷ []))) (sym ((bytes_eq-Decides p.1 n).0 (first (bytes_eq p.1 n) e)))
        ∙ alone p (bytes_eq p.0 p.1) (is_from_one (pair_classes qs) p.1)
        ∙ ap (λ (b : Bool). (not (bytes_eq p.0 p.1) && b) && test (Renamed p.0 p.1)) (from-one qs p.1 there)
      where
        first : (b : Bool) → (b || false) ≡ true → b ≡ true
        first true e = refl
        first false e = e
    at p there (n ∷ m ∷ ms) e = sym (ap (λ (b : Bool). b && test (Renamed p.0 p.1)) (none (bytes_eq p.0 p.1)))
      where
        none : (b : Bool) → (not b && false) ≡ false
        none true = refl
        none false = refl

    here : (p : Pair) → Passes ps p → made p.0 ≡ (is_renamed ps qs p && test (Renamed p.0 p.1))
    here p there =
        at p (h (λ q. bytes_eq p.1 q.0) ∙ there (λ q. bytes_eq p.1 q.1) ((bytes_eq-Decides p.1 p.1).1 refl)) (in_order (members_of p.0 ps))
        (any-class (bytes_eq p.1) ps p.0 ∙ there (λ q. bytes_eq p.0 q.0 && bytes_eq p.1 q.1) (λ i. (bytes_eq-Decides p.0 p.0).1 refl i && (bytes_eq-Decides p.1 p.1).1 refl i))

renamed-turned : (test : Change → Bool) (ps qs : List Pair) → ((t : Pair → Bool) → list_any t qs ≡ list_any (λ p. t (flip p)) ps)
    → list_any test (filter_map (λ c. class_renaming (pair_classes qs) c c.members) (pair_classes ps)) ≡ list_any (back test) (filter_map (λ c. class_renaming (pair_classes ps) c c.members) (pair_classes qs))
renamed-turned test ps qs h =
    renamed-pairs test ps qs h
    ∙ sym (h (λ q. is_renamed ps qs (flip q) && test (Renamed q.1 q.0)))
    ∙ any-same (λ q. is_renamed ps qs (flip q) && test (Renamed q.1 q.0)) (λ q. is_renamed qs ps q && test (Renamed q.1 q.0))
    (λ q. ap (λ (b : Bool). b && test (Renamed q.1 q.0)) ((λ i. not (bytes_eq-back q.1 q.0 i) && and_turned (has_one ps q.1) (has_one qs q.0) i))) qs
    ∙ sym (renamed-pairs (back test) qs ps (λ t. sym (h (λ p. t (flip p)))))
  where
    and_turned : (a b : Bool) → (a && b) ≡ (b && a)
    and_turned true true = refl
    and_turned true false = refl
    and_turned false true = refl
    and_turned false false = refl

-- words that are added, the other way
came_or_went : (test : Change → Bool) (x : Option Outcome') (r : Row)
    → (passes test (word_addition x r) ≡ passes (back test) (word_removal x r)) × (passes test (word_removal x r) ≡ passes (back test) (word_addition x r))
came_or_went test None r = (refl, refl)
came_or_went test (Some o) r = (refl, refl)

added-removed : (test : Change → Bool) (f : List ℕ → Option Outcome') (rows : List Row) → list_any test (filter_map (λ r. word_addition (f r.word) r) rows) ≡ list_any (back test) (filter_map (λ r. word_removal (f r.word) r) rows)
added-removed test f rows = alike test (back test) (λ r. word_addition (f r.word) r) (λ r. word_removal (f r.word) r) (λ r. (came_or_went test (f r.word) r).0) rows

removed-added : (test : Change → Bool) (f : List ℕ → Option Outcome') (rows : List Row) → list_any test (filter_map (λ r. word_removal (f r.word) r) rows) ≡ list_any (back test) (filter_map (λ r. word_addition (f r.word) r) rows)
removed-added test f rows = alike test (back test) (λ r. word_removal (f r.word) r) (λ r. word_addition (f r.word) r) (λ r. (came_or_went test (f r.word) r).1) rows

same-back : (o n : Outcome') → same_outcome o n ≡ same_outcome n o
same-back (Stem s) (Stem t) = bytes_eq-back s t
same-back (Stem s) (Refused n) = refl
same-back (Refused m) (Stem t) = refl
same-back (Refused f) (Refused g) = both (sameb fault.the_type f g) (sameb fault.the_type g f) (turn f g) (turn g f)
  where
    both : (a b : Bool) → (a ≡ true → b ≡ true) → (b ≡ true → a ≡ true) → a ≡ b
    both true b t u = sym (t refl)
    both false true t u = u refl
    both false false t u = refl

    turn : (f g : RunFault) → sameb fault.the_type f g ≡ true → sameb fault.the_type g f ≡ true
    turn f g e = true_same fault.the_type g f (sym (same_true fault.the_type tt f g e))

abbrev of_changes : (Change → Bool) → Of
of_changes test w o n = if same_outcome o n then false else test (Changed w o n)

changed-same : (test : Change → Bool) (f : List ℕ → Option Outcome') (rows : List Row) → list_any test (filter_map (λ r. outcome_change (f r.word) r) rows) ≡ list_any (λ r. with_other (of_changes test) (f r.word) r) rows
changed-same test f rows = any-made test (λ r. outcome_change (f r.word) r) rows ∙ any-same (λ r. passes test (outcome_change (f r.word) r)) (λ r. with_other (of_changes test) (f r.word) r) (λ r. by (f r.word) r) rows
  where
    at : (b : Bool) (c : Change) → passes test (if b then None else Some c) ≡ (if b then false else test c)
    at true c = refl
    at false c = refl

    by : (x : Option Outcome') (r : Row) → passes test (outcome_change x r) ≡ with_other (of_changes test) x r
    by None r = refl
    by (Some o) r = at (same_outcome o r.outcome) (Changed r.word o r.outcome)

changed-turned : (test : Change → Bool) (before after : List Row) → HasOneRowEach before → HasOneRowEach after
    → list_any test (filter_map (λ r. outcome_change (outcome_in before r.word) r) after) ≡ list_any (back test) (filter_map (λ r. outcome_change (outcome_in after r.word) r) before)
changed-turned test before after one other =
    changed-same test (outcome_in before) after
    ∙ exchange_sides before after one other (of_changes test)
    ∙ any-same (λ r. with_other (swap_sides (of_changes test)) (outcome_in after r.word) r) (λ r. with_other (of_changes (back test)) (outcome_in after r.word) r) (λ r. by (outcome_in after r.word) r) before
    ∙ sym (changed-same (back test) (outcome_in after) before)
  where
    by : (x : Option Outcome') (r : Row) → with_other (swap_sides (of_changes test)) x r ≡ with_other (of_changes (back test)) x r
    by None r = refl
    by (Some n) r = ap (λ (b : Bool). if b then false else test (Changed r.word r.outcome n)) (same-back r.outcome n)

-- ---- all changes

or_turned : (a b : Bool) → (a || b) ≡ (b || a)
or_turned true true = refl
or_turned true false = refl
or_turned false true = refl
or_turned false false = refl

parts : (test : Change → Bool) (a b c d e f : List Change) → list_any test (((a ++ b) ++ c) ++ ((d ++ e) ++ f))
    ≡ (((list_any test a || list_any test b) || list_any test c) || ((list_any test d || list_any test e) || list_any test f))
parts test a b c d e f =
    any-append test ((a ++ b) ++ c) ((d ++ e) ++ f)
    ∙ (λ i. (any-append test (a ++ b) c ∙ ap (λ (x : Bool). x || list_any test c) (any-append test a b)) i
    || (any-append test (d ++ e) f ∙ ap (λ (x : Bool). x || list_any test f) (any-append test d e)) i)

pub turned_changes : ExchangedListsTurnChanges
turned_changes before after one other test =
    let moves : List Pair = moves_of (outcome_in before) after in
    let back_moves : List Pair = moves_of (outcome_in after) before in
    let old : pair_classes moves ≡ pair_classes (moves_back back_moves) =
    classes-same moves (moves_back back_moves) (λ t. moves-turned before after one other t ∙ sym (any-map flip t back_moves)) in
    let new : pair_classes (moves_back moves) ≡ pair_classes back_moves =
    classes-same (moves_back moves) back_moves (λ t. any-map flip t moves ∙ moves-turned before after one other (λ m. t (flip m))) in
    let a : List Change = filter_map (λ r. word_addition (outcome_in before r.word) r) after in
    let b : List Change = filter_map (λ r. word_removal (outcome_in after r.word) r) before in
    let c : List Change = filter_map (λ r. outcome_change (outcome_in before r.word) r) after in
    let d : List Change = filter_map (λ k. class_split k k.members) (pair_classes moves) in
    let e : List Change = filter_map (λ k. class_merger k k.members) (pair_classes (moves_back moves)) in
    let f : List Change = filter_map (λ k. class_renaming (pair_classes (moves_back moves)) k k.members) (pair_classes moves) in
    let a' : List Change = filter_map (λ r. word_addition (outcome_in after r.word) r) before in
    let b' : List Change = filter_map (λ r. word_removal (outcome_in before r.word) r) after in
    let c' : List Change = filter_map (λ r. outcome_change (outcome_in after r.word) r) before in
    let d' : List Change = filter_map (λ k. class_split k k.members) (pair_classes back_moves) in
    let e' : List Change = filter_map (λ k. class_merger k k.members) (pair_classes (moves_back back_moves)) in
    let f' : List Change = filter_map (λ k. class_renaming (pair_classes (moves_back back_moves)) k k.members) (pair_classes back_moves) in
    let ab : (list_any test a || list_any test b) ≡ (list_any (back test) a' || list_any (back test) b') =
    (λ i. added-removed test (outcome_in before) after i || removed-added test (outcome_in after) before i) ∙ or_turned (list_any (back test) b') (list_any (back test) a') in
    let de : (list_any test d || list_any test e) ≡ (list_any (back test) d' || list_any (back test) e') =
    (λ i. (split-merged test (pair_classes moves) ∙ ap (λ (cs : List Class). list_any (back test) (filter_map (λ k. class_merger k k.members) cs)) old) i
    || (merged-split test (pair_classes (moves_back moves)) ∙ ap (λ (cs : List Class). list_any (back test) (filter_map (λ k. class_split k k.members) cs)) new) i)
    ∙ or_turned (list_any (back test) e') (list_any (back test) d') in
    let ff : list_any test f ≡ list_any (back test) f' =
    (λ i. list_any test (filter_map (λ k. class_renaming (new i) k k.members) (pair_classes moves)))
    ∙ renamed-turned test moves back_moves (λ t. moves-turned after before other one t)
    ∙ (λ i. list_any (back test) (filter_map (λ k. class_renaming (old i) k k.members) (pair_classes back_moves))) in
    parts test a b c d e f
    ∙ (λ i. (ab i || changed-turned test before after one other i) || (de i || ff i))
    ∙ sym (parts (back test) a' b' c' d' e' f')
