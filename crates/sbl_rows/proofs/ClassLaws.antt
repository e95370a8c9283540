-- The classes of pairs rise, none is empty, and their members are those of the pairs. So it is for the pairs of rows.
use Rattle.std.proofs.Common.{◌≡◌, ◌∙◌, ◌||◌, ◌&&◌, ◌<◌, Bool, true, false, ℕ, List, [], ◌∷◌, map, length, arith, refl, sym, ap, subst, true≢false}
use Rattle.std.specs.List.{All, cons_option, list_any}
use Rattle.std.specs.List.Sorted.{IsStrictlySortedBy}
use Rattle.std.specs.Str.{bytes_eq}
use Rattle.std.proofs.lemmas.List.Elements.{All-nil, All-cons, All-head, All-tail, All-map, All-weaker}
use Rattle.std.proofs.lemmas.Map.Views.{All-insert_key}
use Rattle.std.proofs.lemmas.Slice.Eq.{bytes_eq-Decides}
use Rattle.sbl_rows.specs.Classes.{Pair, in_order, is_stem, members_of, pair_class, pair_of, stem_pairs}
use Rattle.sbl_rows.specs.ClassesAreSound.{ClassesAreOfPairs, ClassesAreOfRows, ClassesOfPairsRise, ClassesRise, Rise}
use Rattle.sbl_rows.specs.Rows.{Row}
use Rattle.sbl_semantics.specs.Outcome.{Outcome', Stem, Refused}
use Rattle.sbl_rows.proofs.OrderFacts.{any-in_order, any-members, any-stems, bytes_eq-back, in_order-sorted, text_cmp}

pub any-map : {A B : Type 0} (f : A → B) (test : B → Bool) (xs : List A) → list_any test (map f xs) ≡ list_any (λ x. test (f x)) xs
any-map f test [] = refl
any-map f test (x ∷ xs) = ap (λ (b : Bool). test (f x) || b) (any-map f test xs)

pub any-same : {A : Type 0} (s t : A → Bool) → ((x : A) → s x ≡ t x) → (xs : List A) → list_any s xs ≡ list_any t xs
any-same s t same [] = refl
any-same s t same (x ∷ xs) = λ i. same x i || any-same s t same xs i

pub any-class : (test : List ℕ → Bool) (pairs : List Pair) (stem : List ℕ) → list_any test (in_order (members_of stem pairs)) ≡ list_any (λ p. bytes_eq stem p.0 && test p.1) pairs
any-class test pairs stem = any-in_order test (members_of stem pairs) ∙ any-members test stem pairs

abbrev pub some_stem : List ℕ → List Pair → Bool
some_stem stem pairs = list_any (λ p. bytes_eq stem p.0) pairs

-- the stem, if a pair has it, and what is so of it
pub any-given : (holds : List ℕ → Bool) (stem : List ℕ) (pairs : List Pair) → list_any (λ p. bytes_eq stem p.0 && holds p.0) pairs ≡ (some_stem stem pairs && holds stem)
any-given holds stem [] = refl
any-given holds stem (p ∷ pairs) = here (bytes_eq stem p.0) refl (any-given holds stem pairs)
  where
    absorbed : (h x : Bool) → (h || (x && h)) ≡ h
    absorbed true x = refl
    absorbed false true = refl
    absorbed false false = refl

    here : (b : Bool) → bytes_eq stem p.0 ≡ b → list_any (λ p. bytes_eq stem p.0 && holds p.0) pairs ≡ (some_stem stem pairs && holds stem)
        → ((bytes_eq stem p.0 && holds p.0) || list_any (λ p. bytes_eq stem p.0 && holds p.0) pairs) ≡ ((bytes_eq stem p.0 || some_stem stem pairs) && holds stem)
    here true e rest =
        rw e (ap (λ (b : Bool). holds p.0 || b) rest ∙ ap (λ (z : List ℕ). holds z || (some_stem stem pairs && holds stem)) (sym ((bytes_eq-Decides stem p.0).0 e)) ∙ absorbed (holds stem) (some_stem stem pairs))
    here false e rest = rw e rest

-- a pair with the stem is there, if one with more is
some_given : (stem : List ℕ) (test : Pair → Bool) (pairs : List Pair) → (some_stem stem pairs && list_any (λ p. bytes_eq stem p.0 && test p) pairs) ≡ list_any (λ p. bytes_eq stem p.0 && test p) pairs
some_given stem test [] = refl
some_given stem test (p ∷ pairs) = by (bytes_eq stem p.0) (some_given stem test pairs)
  where
    by : (b : Bool) → (some_stem stem pairs && list_any (λ p. bytes_eq stem p.0 && test p) pairs) ≡ list_any (λ p. bytes_eq stem p.0 && test p) pairs
        → ((b || some_stem stem pairs) && ((b && test p) || list_any (λ p. bytes_eq stem p.0 && test p) pairs)) ≡ ((b && test p) || list_any (λ p. bytes_eq stem p.0 && test p) pairs)
    by true rest = refl
    by false rest = rest

pub classes_are_of_pairs : ClassesAreOfPairs
classes_are_of_pairs pairs stem member =
    let holds : List ℕ → Bool = λ s. list_any (λ p. bytes_eq s p.0 && bytes_eq member p.1) pairs in
    any-map (pair_class pairs) (λ c. bytes_eq stem c.stem && list_any (bytes_eq member) c.members) (in_order (map (λ p. p.0) pairs))
    ∙ any-in_order (λ s. bytes_eq stem s && list_any (bytes_eq member) (in_order (members_of s pairs))) (map (λ p. p.0) pairs)
    ∙ any-same (λ s. bytes_eq stem s && list_any (bytes_eq member) (in_order (members_of s pairs))) (λ s. bytes_eq stem s && holds s)
    (λ s. ap (λ (b : Bool). bytes_eq stem s && b) (any-class (bytes_eq member) pairs s)) (map (λ p. p.0) pairs)
    ∙ any-stems (λ s. bytes_eq stem s && holds s) pairs
    ∙ any-given holds stem pairs
    ∙ some_given stem (λ p. bytes_eq member p.1) pairs

-- ---- no class is empty

or_true : (b : Bool) → (b || true) ≡ true
or_true true = refl
or_true false = refl

stems_there : (pairs : List Pair) → All (λ s. some_stem s pairs ≡ true) (map (λ p. p.0) pairs)
stems_there [] = All-nil (λ s. some_stem s [] ≡ true)
stems_there (p ∷ pairs) =
    All-cons (λ s. (bytes_eq s p.0 || some_stem s pairs) ≡ true) p.0 (map (λ p. p.0) pairs) (ap (λ (b : Bool). b || some_stem p.0 pairs) ((bytes_eq-Decides p.0 p.0).1 refl))
    (All-weaker (λ s. some_stem s pairs ≡ true) (λ s. (bytes_eq s p.0 || some_stem s pairs) ≡ true) (λ s h. ap (λ (b : Bool). bytes_eq s p.0 || b) h ∙ or_true (bytes_eq s p.0)) (map (λ p. p.0) pairs) (stems_there pairs))

all-in_order : (P : List ℕ → Type 0) (ts : List (List ℕ)) → All P ts → All P (in_order ts)
all-in_order P [] a = a
all-in_order P (t ∷ ts) a = All-insert_key text_cmp t P (in_order ts) (all-in_order P ts (All-tail P t ts a)) (All-head P t ts a)

some_members : (stem : List ℕ) (pairs : List Pair) → some_stem stem pairs ≡ true → 0 < length (in_order (members_of stem pairs))
some_members stem pairs h = at (in_order (members_of stem pairs)) (any-class (λ w. true) pairs stem ∙ any-same (λ p. bytes_eq stem p.0 && true) (λ p. bytes_eq stem p.0) (λ p. and_true (bytes_eq stem p.0)) pairs ∙ h)
  where
    and_true : (b : Bool) → (b && true) ≡ b
    and_true true = refl
    and_true false = refl

    at : (ws : List (List ℕ)) → list_any (λ (w : List ℕ). true) ws ≡ true → 0 < length ws
    at [] e = absurd (true≢false (sym e))
    at (w ∷ ws) e = omega arith

pub stems_of_classes : (pairs : List Pair) (ss : List (List ℕ)) → map (λ c. c.stem) (map (pair_class pairs) ss) ≡ ss
stems_of_classes pairs [] = refl
stems_of_classes pairs (s ∷ ss) = ap (λ (l : List (List ℕ)). s ∷ l) (stems_of_classes pairs ss)

pub classes_of_pairs_rise : ClassesOfPairsRise
classes_of_pairs_rise pairs = (
  subst (λ (l : List (List ℕ)). IsStrictlySortedBy text_cmp l) (sym (stems_of_classes pairs (in_order (map (λ p. p.0) pairs)))) (in_order-sorted (map (λ p. p.0) pairs)),
  All-map (λ c. Rise c.members × (0 < length c.members)) (pair_class pairs) (in_order (map (λ p. p.0) pairs))
      (all-in_order (λ s. Rise (in_order (members_of s pairs)) × (0 < length (in_order (members_of s pairs)))) (map (λ p. p.0) pairs)
      (All-weaker (λ s. some_stem s pairs ≡ true) (λ s. Rise (in_order (members_of s pairs)) × (0 < length (in_order (members_of s pairs))))
      (λ s h. (in_order-sorted (members_of s pairs), some_members s pairs h)) (map (λ p. p.0) pairs) (stems_there pairs))),
)

-- ---- the classes of rows are those of their pairs

pub classes_rise : ClassesRise
classes_rise rows = classes_of_pairs_rise (stem_pairs rows)

any-row : (stem word : List ℕ) (rows : List Row)
    → list_any (λ p. bytes_eq stem p.0 && bytes_eq word p.1) (stem_pairs rows) ≡ list_any (λ r. is_stem stem r.outcome && bytes_eq word r.word) rows
any-row stem word [] = refl
any-row stem word (r ∷ rows) = by r.outcome (any-row stem word rows)
  where
    by : (o : Outcome') → list_any (λ p. bytes_eq stem p.0 && bytes_eq word p.1) (stem_pairs rows) ≡ list_any (λ r. is_stem stem r.outcome && bytes_eq word r.word) rows
        → list_any (λ p. bytes_eq stem p.0 && bytes_eq word p.1) (cons_option (pair_of r.word o) (stem_pairs rows))
        ≡ ((is_stem stem o && bytes_eq word r.word) || list_any (λ r. is_stem stem r.outcome && bytes_eq word r.word) rows)
    by (Stem s) rest = λ i. (bytes_eq-back stem s i && bytes_eq word r.word) || rest i
    by (Refused f) rest = rest

pub classes_are_of_rows : ClassesAreOfRows
classes_are_of_rows rows stem word = classes_are_of_pairs (stem_pairs rows) stem word ∙ any-row stem word rows
