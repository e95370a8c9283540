-- The marks of items are the touches of what their edits affect.
use Rattle.std.proofs.Common.{◌≡◌, ◌∙◌, ◌||◌, ◌&&◌, ◌<◌, ◌+◌, ℕ, zero, suc, Bool, true, false, nat_eq, List, [], ◌∷◌, ◌++◌, arith, refl, sym, ap}
use Rattle.std.specs.Prelude.{if◌then◌else◌, slice_index_or}
use Rattle.std.specs.List.{list_all, list_any}
use Rattle.std.specs.Str.{bytes_eq}
use Rattle.std.proofs.lemmas.Bool.{true≢false, eqb-true}
use Rattle.std.proofs.lemmas.Bool.Decides.{nat_tests}
use Rattle.std.proofs.lemmas.List.Folds.{list_any-append}
use Rattle.std.proofs.Math.Path.{fun_ext}
use Rattle.sbl_ast.specs.Order.{ItemInMode, in_order}
use Rattle.sbl_ast.specs.declared.tree.DeclarationKind.TheVariants as kinds
use Rattle.sbl_semantics.specs.Items.{is_member, known_in}
use Rattle.sbl_compiler.proofs.SoundItems.{among_is}
use Rattle.sbl_semantics.specs.declared.touch.Touch.{Touch}
use Rattle.sbl_semantics.specs.declared.touch.Touch.TheVariants.{Entered, Searched, Tested}
use Rattle.sbl_semantics.specs.Touches.{same_touch, with_touch}
use Rattle.sbl_ast.specs.Source.{Source}
use Rattle.sbl_script.specs.SpelledScript.{AreSpelled}
use Rattle.sbl_machine.specs.BuiltFrom.{is_affected_by, affected_by}
use Rattle.sbl_machine.specs.inside.BuiltFromParts.{built_after}
use Rattle.sbl_machine.specs.Marking.{amongs_after, amongs_in, groupings_after, with_names, marks_of, routines_after, with_searches, searches}
use Rattle.sbl_machine.specs.Marks.{AreMarksOf, has_item}
use Rattle.sbl_semantics.specs.TouchedItems.{item_of_touch, names_of}
use Rattle.sbl_ast.specs.NamedParts.{Part', Routine, Among, Grouping}
use Rattle.sbl_machine.proofs.BuiltFrom.{built_back}
use Rattle.sbl_machine.proofs.Several.{built_from_several, or_false}
use Rattle.sbl_machine.proofs.NotEmpty.{groupings_named, routines_named}
use Rattle.sbl_machine.proofs.Touching.{both_true, has_chosen, not_then}

-- ---- one touch more

or_none : (a b : Bool) → (a || (b || false)) ≡ (b || a)
or_none true true = refl
or_none true false = refl
or_none false true = refl
or_none false false = refl

any_with : (t x : Touch) (xs : List Touch) → list_any (same_touch t) (with_touch x xs) ≡ (same_touch t x || list_any (same_touch t) xs)
any_with t x xs = by (list_any (same_touch x) xs) refl
  where
    there : (a : Bool) → same_touch t x ≡ a → list_any (same_touch x) xs ≡ true → list_any (same_touch t) xs ≡ (a || list_any (same_touch t) xs)
    there true e h = has_chosen (same_touch t) xs x e h
    there false e h = refl

    by : (b : Bool) → list_any (same_touch x) xs ≡ b → list_any (same_touch t) (if b then xs else xs ++ x ∷ []) ≡ (same_touch t x || list_any (same_touch t) xs)
    by true h = there (same_touch t x) refl h
    by false h = list_any-append (same_touch t) xs (x ∷ []) ∙ or_none (list_any (same_touch t) xs) (same_touch t x)

-- ---- the numbers of names

or_turned : (a b c : Bool) → (a || (b || c)) ≡ ((b || a) || c)
or_turned true true c = refl
or_turned true false c = refl
or_turned false true c = refl
or_turned false false c = refl

module _ (touch : ℕ → Touch) (test : List ℕ → Bool) (t : Touch) where
  -- whether it is the touch of one of some names that passes the test
  abbrev hit : ℕ → List (List ℕ) → Bool
  hit i [] = false
  hit i (n ∷ ns) = (test n && same_touch t (touch i)) || hit (suc i) ns

  any_marked : (i : ℕ) (ns : List (List ℕ)) (ts : List Touch) → list_any (same_touch t) (with_names touch test i ns ts) ≡ (hit i ns || list_any (same_touch t) ts)
  any_marked i [] ts = refl
  any_marked i (n ∷ ns) ts = by (test n) (λ us. any_marked (suc i) ns us)
    where
      by : (b : Bool) → ((us : List Touch) → list_any (same_touch t) (with_names touch test (suc i) ns us) ≡ (hit (suc i) ns || list_any (same_touch t) us))
          → list_any (same_touch t) (with_names touch test (suc i) ns (if b then with_touch (touch i) ts else ts)) ≡ (((b && same_touch t (touch i)) || hit (suc i) ns) || list_any (same_touch t) ts)
      by true rest =
          rest (with_touch (touch i) ts) ∙ ap (λ (b : Bool). hit (suc i) ns || b) (any_with t (touch i) ts)
          ∙ or_turned (hit (suc i) ns) (same_touch t (touch i)) (list_any (same_touch t) ts)
      by false rest = rest ts

  none_hit : ((i : ℕ) → same_touch t (touch i) ≡ false) → (i : ℕ) (ns : List (List ℕ)) → hit i ns ≡ false
  none_hit off i [] = refl
  none_hit off i (n ∷ ns) = by (test n) (off i) (none_hit off (suc i) ns)
    where
      by : (b : Bool) → same_touch t (touch i) ≡ false → hit (suc i) ns ≡ false → ((b && same_touch t (touch i)) || hit (suc i) ns) ≡ false
      by true h rest = ap (λ (a : Bool). a || hit (suc i) ns) h ∙ rest
      by false h rest = rest

  module _ (j : ℕ) (own : (i : ℕ) → same_touch t (touch i) ≡ nat_eq j i) where
    past : (i : ℕ) (ns : List (List ℕ)) → j < i → hit i ns ≡ false
    past i [] h = refl
    past i (n ∷ ns) h = by (test n) (own i ∙ off) (past (suc i) ns (omega (arith, h)))
      where
        off : nat_eq j i ≡ false
        off = grind (arith, nat_tests, h)

        by : (b : Bool) → same_touch t (touch i) ≡ false → hit (suc i) ns ≡ false → ((b && same_touch t (touch i)) || hit (suc i) ns) ≡ false
        by true e rest = ap (λ (a : Bool). a || hit (suc i) ns) e ∙ rest
        by false e rest = rest

    hit_at : test [] ≡ false → (i : ℕ) (ns : List (List ℕ)) (k : ℕ) → j ≡ i + k → hit i ns ≡ test (slice_index_or ns k [])
    hit_at none i [] k at = sym none
    hit_at none i (n ∷ ns) zero at = by (test n) (own i ∙ on) (past (suc i) ns (omega (arith, at)))
      where
        on : nat_eq j i ≡ true
        on = grind (arith, nat_tests, at)

        by : (b : Bool) → same_touch t (touch i) ≡ true → hit (suc i) ns ≡ false → ((b && same_touch t (touch i)) || hit (suc i) ns) ≡ b
        by true e rest = ap (λ (a : Bool). a || hit (suc i) ns) e
        by false e rest = rest
    hit_at none i (n ∷ ns) (suc k) at = by (test n) (own i ∙ off) (hit_at none (suc i) ns k (omega (arith, at)))
      where
        off : nat_eq j i ≡ false
        off = grind (arith, nat_tests, at)

        by : (b : Bool) → same_touch t (touch i) ≡ false → hit (suc i) ns ≡ test (slice_index_or ns k []) → ((b && same_touch t (touch i)) || hit (suc i) ns) ≡ test (slice_index_or ns k [])
        by true e rest = ap (λ (a : Bool). a || hit (suc i) ns) e ∙ rest
        by false e rest = rest

-- a touch that the marks have under its number
own_marked : (touch : ℕ → Touch) (test : List ℕ → Bool) (t : Touch) (ns : List (List ℕ)) (ts : List Touch) (j : ℕ) → ((i : ℕ) → same_touch t (touch i) ≡ nat_eq j i) → test [] ≡ false
    → list_any (same_touch t) (with_names touch test 0 ns ts) ≡ (test (slice_index_or ns j []) || list_any (same_touch t) ts)
own_marked touch test t ns ts j own none =
    any_marked touch test t 0 ns ts ∙ ap (λ (b : Bool). b || list_any (same_touch t) ts) (hit_at touch test t j own none 0 ns j (omega arith))

-- a touch of another form
not_marked : (touch : ℕ → Touch) (test : List ℕ → Bool) (t : Touch) (ns : List (List ℕ)) (ts : List Touch) → ((i : ℕ) → same_touch t (touch i) ≡ false)
    → list_any (same_touch t) (with_names touch test 0 ns ts) ≡ list_any (same_touch t) ts
not_marked touch test t ns ts off = any_marked touch test t 0 ns ts ∙ ap (λ (b : Bool). b || list_any (same_touch t) ts) (none_hit touch test t off 0 ns)

-- ---- searches

and_false : (a : Bool) → false ≡ (a && false)
and_false true = refl
and_false false = refl

-- a touch that searches nothing
searched_not : (t : Touch) → ((i k : ℕ) → same_touch t (Searched i k) ≡ false) → (i : ℕ) (ks : List ℕ) (ts : List Touch) → list_any (same_touch t) (with_searches i ks ts) ≡ list_any (same_touch t) ts
searched_not t off i [] ts = refl
searched_not t off i (k ∷ ks) ts =
    searched_not t off i ks (with_touch (Searched i k) ts) ∙ any_with t (Searched i k) ts ∙ ap (λ (b : Bool). b || list_any (same_touch t) ts) (off i k)

searches_not : (t : Touch) → ((i k : ℕ) → same_touch t (Searched i k) ≡ false) → (numbers : List ℕ → List ℕ) (i : ℕ) (ns : List (List ℕ)) (ts : List Touch)
    → list_any (same_touch t) (searches numbers i ns ts) ≡ list_any (same_touch t) ts
searches_not t off numbers i [] ts = refl
searches_not t off numbers i (n ∷ ns) ts = searches_not t off numbers (suc i) ns (with_searches i (numbers n) ts) ∙ searched_not t off i (numbers n) ts

or_shift : (a b c d : Bool) → ((a && d) || ((d && b) || c)) ≡ (((b || a) && d) || c)
or_shift true true c true = refl
or_shift true false c true = refl
or_shift false true c true = refl
or_shift false false c true = refl
or_shift true true c false = refl
or_shift _ _ c _ = refl

module _ (numbers : List ℕ → List ℕ) (j l : ℕ) where
  abbrev has_search : List Touch → Bool
  has_search ts = list_any (same_touch (Searched j l)) ts

  abbrev has_number : List ℕ → Bool
  has_number n = list_any (nat_eq l) (numbers n)

  any_searched : (i : ℕ) (ks : List ℕ) (ts : List Touch) → has_search (with_searches i ks ts) ≡ ((list_any (nat_eq l) ks && nat_eq j i) || has_search ts)
  any_searched i [] ts = refl
  any_searched i (k ∷ ks) ts =
      any_searched i ks (with_touch (Searched i k) ts)
      ∙ ap (λ (b : Bool). (list_any (nat_eq l) ks && nat_eq j i) || b) (any_with (Searched j l) (Searched i k) ts)
      ∙ or_shift (list_any (nat_eq l) ks) (nat_eq l k) (has_search ts) (nat_eq j i)

  any_search : (i : ℕ) (ns : List (List ℕ)) (ts : List Touch) → has_search (searches numbers i ns ts) ≡ (hit Entered has_number (Entered j) i ns || has_search ts)
  any_search i [] ts = refl
  any_search i (n ∷ ns) ts =
      any_search (suc i) ns (with_searches i (numbers n) ts)
      ∙ ap (λ (b : Bool). hit Entered has_number (Entered j) (suc i) ns || b) (any_searched i (numbers n) ts)
      ∙ or_turned (hit Entered has_number (Entered j) (suc i) ns) (has_number n && nat_eq j i) (has_search ts)

  own_search : (ns : List (List ℕ)) → has_number [] ≡ false → has_search (searches numbers 0 ns []) ≡ has_number (slice_index_or ns j [])
  own_search ns none =
      any_search 0 ns [] ∙ or_false (hit Entered has_number (Entered j) 0 ns) ∙ hit_at Entered has_number (Entered j) j (λ i. refl) none 0 ns j (omega arith)

next_by : (l k : ℕ) (b : Bool) → nat_eq l k ≡ b → nat_eq l k ≡ nat_eq (suc k) (suc l)
next_by l k true e = let same : nat_eq (suc k) (suc l) ≡ true = grind (arith, nat_tests, eqb-true l k e) in e ∙ sym same
next_by l k false e = let other : nat_eq (suc k) (suc l) ≡ false = grind (arith, nat_tests, e) in e ∙ sym other

next_same : (l k : ℕ) → nat_eq l k ≡ nat_eq (suc k) (suc l)
next_same l k = next_by l k (nat_eq l k) refl

-- ---- names that are collected

one_more : (a b c : Bool) → ((a || (b || false)) || c) ≡ (a || (b || c))
one_more true b c = refl
one_more false true c = refl
one_more false false c = refl

module _ (p : List ℕ → Bool) where
  abbrev routine_passes : Part' → Bool
  routine_passes (Routine n) = p n
  routine_passes (Among n k) = false
  routine_passes (Grouping n) = false

  any_routine : (xs : List Part') (ns : List (List ℕ)) → list_any p (routines_after xs ns) ≡ (list_any p ns || list_any routine_passes xs)
  any_routine [] ns = sym (or_false (list_any p ns))
  any_routine (Routine n ∷ xs) ns =
      any_routine xs (ns ++ n ∷ [])
      ∙ ap (λ (b : Bool). b || list_any routine_passes xs) (list_any-append p ns (n ∷ []))
      ∙ one_more (list_any p ns) (p n) (list_any routine_passes xs)
  any_routine (Among n k ∷ xs) ns = any_routine xs ns
  any_routine (Grouping n ∷ xs) ns = any_routine xs ns

  abbrev grouping_passes : Part' → Bool
  grouping_passes (Routine n) = false
  grouping_passes (Among n k) = false
  grouping_passes (Grouping n) = p n

  any_grouping : (xs : List Part') (ns : List (List ℕ)) → list_any p (groupings_after xs ns) ≡ (list_any p ns || list_any grouping_passes xs)
  any_grouping [] ns = sym (or_false (list_any p ns))
  any_grouping (Grouping n ∷ xs) ns =
      any_grouping xs (ns ++ n ∷ [])
      ∙ ap (λ (b : Bool). b || list_any grouping_passes xs) (list_any-append p ns (n ∷ []))
      ∙ one_more (list_any p ns) (p n) (list_any grouping_passes xs)
  any_grouping (Among n k ∷ xs) ns = any_grouping xs ns
  any_grouping (Routine n ∷ xs) ns = any_grouping xs ns

among_any : (ns : List (List ℕ)) (n : List ℕ) → is_member ns n ≡ list_any (λ m. bytes_eq m n) ns
among_any [] n = refl
among_any (m ∷ ns) n = by (bytes_eq m n) (among_any ns n)
  where
    by : (b : Bool) → is_member ns n ≡ list_any (λ m. bytes_eq m n) ns → (if b then true else is_member ns n) ≡ (b || list_any (λ m. bytes_eq m n) ns)
    by true h = refl
    by false h = h

none_passes : {X : Type 0} (p q : X → Bool) → ((x : X) → q x ≡ true → p x ≡ false) → (xs : List X) → list_all q xs ≡ true → list_any p xs ≡ false
none_passes p q f [] h = refl
none_passes p q f (x ∷ xs) h =
    let b = both_true (q x) (list_all q xs) h in
    ap (λ (c : Bool). c || list_any p xs) (f x b.0) ∙ none_passes p q f xs b.1

-- ---- items

has_name : (names : List (List ℕ)) (n : List ℕ) → is_member names [] ≡ false → is_member names n ≡ true → bytes_eq n [] ≡ false
has_name names [] none there = absurd (true≢false (sym there ∙ none))
has_name names (c ∷ cs) none there = refl

module _ (s : Source) (spelled : AreSpelled s.items) where
  abbrev items : List ItemInMode
  items = in_order s.items

  abbrev routines : List (List ℕ)
  routines = (names_of s).routines

  abbrev groupings : List (List ℕ)
  groupings = (names_of s).groupings

  -- ---- routines

  routine_is : (n : List ℕ) (x : Part') → routine_passes (λ m. bytes_eq m n) x ≡ is_affected_by s x (Routine n)
  routine_is n (Routine m) = refl
  routine_is n (Among m k) = refl
  routine_is n (Grouping m) = refl

  routines_are : (xs : List Part') (n : List ℕ) → is_member (routines_after xs []) n ≡ list_any (λ x. is_affected_by s x (Routine n)) xs
  routines_are xs n =
      among_any (routines_after xs []) n ∙ any_routine (λ m. bytes_eq m n) xs [] ∙ ap (λ (p : Part' → Bool). list_any p xs) (fun_ext (routine_is n))

  named_routine : (x : Part') → has_item (names_of s) x ≡ true → is_affected_by s x (Routine []) ≡ false
  named_routine (Routine n) there = has_name routines n (routines_named s.items spelled) there
  named_routine (Among n k) there = refl
  named_routine (Grouping n) there = refl

  -- ---- groupings

  -- nothing without a name is built from a grouping
  built_named : (n : List ℕ) → has_item (names_of s) (Grouping n) ≡ true → is_member (built_after items (n ∷ [])) [] ≡ false
  built_named n there =
      let none = groupings_named s.items spelled in
      not_then (is_member (built_after items (n ∷ [])) []) (is_member (n ∷ []) []) (built_back items (n ∷ []) [] none)
      (ap (λ (b : Bool). if b then true else false) (has_name (known_in items kinds.Groupings) n none there))

  grouping_is : (n : List ℕ) (x : Part') → grouping_passes (λ m. is_member (built_after items (m ∷ [])) n) x ≡ is_affected_by s x (Grouping n)
  grouping_is n (Routine m) = refl
  grouping_is n (Among m k) = refl
  grouping_is n (Grouping m) = refl

  groupings_are : (xs : List Part') (n : List ℕ) → is_member (built_after items (groupings_after xs [])) n ≡ list_any (λ x. is_affected_by s x (Grouping n)) xs
  groupings_are xs n =
      built_from_several items (groupings_after xs []) n
      ∙ any_grouping (λ m. is_member (built_after items (m ∷ [])) n) xs []
      ∙ ap (λ (p : Part' → Bool). list_any p xs) (fun_ext (grouping_is n))

  named_grouping : (x : Part') → has_item (names_of s) x ≡ true → is_affected_by s x (Grouping []) ≡ false
  named_grouping (Routine n) there = refl
  named_grouping (Among n k) there = refl
  named_grouping (Grouping n) there = built_named n there

  -- ---- amongs

  named_among : (k : ℕ) (x : Part') → has_item (names_of s) x ≡ true → is_affected_by s x (Among [] k) ≡ false
  named_among k (Routine n) there = refl
  named_among k (Among n l) there = ap (λ (b : Bool). b && nat_eq l k) (has_name routines n (routines_named s.items spelled) there)
  named_among k (Grouping n) there = refl

  module _ (l : ℕ) where
    -- the among with number l is one of those collected so far, or of the items to come
    any_among : (n : List ℕ) (xs : List Part') (ks : List ℕ) → list_any (nat_eq l) (amongs_after n xs ks) ≡ (list_any (nat_eq l) ks || list_any (λ x. is_affected_by s x (Among n (suc l))) xs)
    any_among n [] ks = sym (or_false (list_any (nat_eq l) ks))
    any_among n (Routine m ∷ xs) ks = any_among n xs ks
    any_among n (Grouping m ∷ xs) ks = any_among n xs ks
    any_among n (Among m zero ∷ xs) ks =
        let rest = list_any (λ x. is_affected_by s x (Among n (suc l))) xs in
        let other : nat_eq zero (suc l) ≡ false = grind (arith, nat_tests) in
        any_among n xs ks
        ∙ ap (λ (b : Bool). list_any (nat_eq l) ks || (b || rest)) (and_false (bytes_eq m n) ∙ ap (λ (b : Bool). bytes_eq m n && b) (sym other))
    any_among n (Among m (suc k) ∷ xs) ks = by (bytes_eq m n) (λ js. any_among n xs js)
      where
        by : (b : Bool) → ((js : List ℕ) → list_any (nat_eq l) (amongs_after n xs js) ≡ (list_any (nat_eq l) js || list_any (λ x. is_affected_by s x (Among n (suc l))) xs))
            → list_any (nat_eq l) (amongs_after n xs (if b then ks ++ k ∷ [] else ks)) ≡ (list_any (nat_eq l) ks || ((b && nat_eq (suc k) (suc l)) || list_any (λ x. is_affected_by s x (Among n (suc l))) xs))
        by true rest =
            rest (ks ++ k ∷ [])
            ∙ ap (λ (b : Bool). b || list_any (λ x. is_affected_by s x (Among n (suc l))) xs) (list_any-append (nat_eq l) ks (k ∷ []))
            ∙ one_more (list_any (nat_eq l) ks) (nat_eq l k) (list_any (λ x. is_affected_by s x (Among n (suc l))) xs)
            ∙ ap (λ (b : Bool). list_any (nat_eq l) ks || (b || list_any (λ x. is_affected_by s x (Among n (suc l))) xs)) (next_same l k)
        by false rest = rest ks

  amongs_are : (l : ℕ) (xs : List Part') (n : List ℕ) → list_any (nat_eq l) (amongs_in xs n) ≡ list_any (λ x. is_affected_by s x (Among n (suc l))) xs
  amongs_are l xs n = any_among l n xs []

  -- ---- all together

  module _ (xs : List Part') (there : list_all (has_item (names_of s)) xs ≡ true) where
    abbrev search_touches : List Touch
    search_touches = searches (amongs_in xs) 0 routines []

    abbrev entry_touches : (List ℕ → Bool) → List Touch
    entry_touches test = with_names Entered test 0 routines search_touches

    abbrev test_touches : (List ℕ → Bool) → (List ℕ → Bool) → List Touch
    test_touches test other = with_names Tested test 0 groupings (entry_touches other)

    abbrev in_routines : List ℕ → Bool
    in_routines = is_member (routines_after xs [])

    abbrev in_built : List ℕ → Bool
    in_built = is_member (built_after items (groupings_after xs []))

    no_routine : in_routines [] ≡ false
    no_routine = routines_are xs [] ∙ none_passes (λ x. is_affected_by s x (Routine [])) (has_item (names_of s)) named_routine xs there

    no_built : in_built [] ≡ false
    no_built = groupings_are xs [] ∙ none_passes (λ x. is_affected_by s x (Grouping [])) (has_item (names_of s)) named_grouping xs there

    by_touch : (t : Touch) → list_any (same_touch t) (test_touches in_built in_routines) ≡ affected_by s xs (item_of_touch (names_of s) t)
    by_touch (Entered j) =
        let n = slice_index_or routines j [] in
        not_marked Tested in_built (Entered j) groupings (entry_touches in_routines) (λ i. refl)
        ∙ own_marked Entered in_routines (Entered j) routines search_touches j (λ i. refl) no_routine
        ∙ ap (λ (b : Bool). in_routines n || b) (searches_not (Entered j) (λ i k. refl) (amongs_in xs) 0 routines [])
        ∙ or_false (in_routines n)
        ∙ routines_are xs n
    by_touch (Searched j l) =
        not_marked Tested in_built (Searched j l) groupings (entry_touches in_routines) (λ i. refl)
        ∙ not_marked Entered in_routines (Searched j l) routines search_touches (λ i. refl)
        ∙ own_search (amongs_in xs) j l routines (amongs_are l xs [] ∙ none_passes (λ x. is_affected_by s x (Among [] (suc l))) (has_item (names_of s)) (named_among (suc l)) xs there)
        ∙ amongs_are l xs (slice_index_or routines j [])
    by_touch (Tested g) =
        let n = slice_index_or groupings g [] in
        own_marked Tested in_built (Tested g) groupings (entry_touches in_routines) g (λ i. refl) no_built
        ∙ ap (λ (b : Bool). in_built n || b) (not_marked Entered in_routines (Tested g) routines search_touches (λ i. refl) ∙ searches_not (Tested g) (λ i k. refl) (amongs_in xs) 0 routines [])
        ∙ or_false (in_built n)
        ∙ groupings_are xs n

  pub are_marks : (xs : List Part') → list_all (has_item (names_of s)) xs ≡ true → AreMarksOf s xs (marks_of (names_of s) items xs)
  are_marks xs there t =
      let built = fun_ext (among_is (built_after items (groupings_after xs []))) in
      let own = fun_ext (among_is (routines_after xs [])) in
      (λ i. list_any (same_touch t) (test_touches xs there (built i) (own i))) ∙ by_touch xs there t
