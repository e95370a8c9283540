-- A command beside the same with holes: they run alike unless something that is picked is touched.
use Rattle.std.proofs.Common.{◌≡◌, ℕ, zero, suc, Bool, true, false, List, [], refl, sym, ◌∙◌, subst, Option, Some, None, Ok}
use Rattle.std.specs.Prelude.{if◌then◌else◌, slice_index_or}
use Rattle.sbl_ast.specs.declared.tree.DeclarationKind.TheVariants as kinds
use Rattle.sbl_ast.specs.Tree as trees
use Rattle.sbl_ast.specs.Tree.{bracket, simple_, literal_, name_, non_, prefixed, counted, move_, named, splice_, setlimit_, assign_, compare_, compare_values_, among_, no_rows, row, no_others, joined, no_starter, starter, bare, group, entry}
use Rattle.sbl_ast.specs.declared.mode.Mode.{Mode}
use Rattle.sbl_semantics.specs.Items.{DeclaredNames, place_of, is_member}
use Rattle.sbl_semantics.specs.Regions.{among_at, number_after, number_after_rows, number_after_others, number_after_starter, first, first_rows, first_others, waits, waits_others}
use Rattle.sbl_semantics.specs.Landmarks.{Among, mode_under}
use Rattle.sbl_semantics.specs.declared.touch.Touch.{Touch}
use Rattle.sbl_semantics.specs.declared.touch.Touch.TheVariants.{Searched, Tested}
use Rattle.sbl_machine.specs.Holes.{blank, blanks, blanks_rows, blanks_others, blanks_starter, blanks_groups, nothing, hole, with_holes, rows_with_holes, others_with_holes, starter_with_holes, groups_with_holes}
use Rattle.sbl_semantics.specs.Meaning as meaning
use Rattle.sbl_semantics.specs.inside.RegionRuns as regions
use Rattle.sbl_semantics.specs.inside.MeaningParts as parts
use Rattle.sbl_semantics.specs.Meaning.{offers, search, tests, worth, text}
use Rattle.sbl_semantics.specs.Moves.{match, one_of}
use Rattle.sbl_semantics.specs.Numbers.{integer_at}
use Rattle.sbl_semantics.specs.Control.{pay_first}
use Rattle.sbl_semantics.specs.State.{State, Signals, Doing, pay}
use Rattle.sbl_machine.proofs.Stays.{pay_same, match_same, class_same, moves_same, assigned_same, compared_same, named_same, edited_same}
use Rattle.sbl_machine.proofs.FramePairs.{Grown, Pair, Alike, grown_after, after_pair, from_pair, if_pair, same_grown, same_pair, signals_pair, paid_alike, prefixed_pair, counted_pair, joined_alike, limited_pair, simple_pair, touched_pair, touched_spoiled, touching}
use Rattle.sbl_machine.proofs.FrameSearches.{finds, finds_grown, finds_alike, finds_spoiled, grown_call', choosing_grown, choosing_pair, hole_pair}
use Rattle.sbl_machine.proofs.HoledTrees.{after_same, after_rows_same, after_others_same, after_starter_same, waits_same, waits_others_same, offers_same}

-- ---- what stands in a hole, alone

module _ (picked : Touch → Bool) (ns : DeclaredNames) (class : List ℕ → ℕ → Bool) (call : List ℕ → Doing) (calls_grown : (n : List ℕ) (m : Mode) (s : State) → Grown picked s (call n m s)) where
  record RowsGrown (rs : trees.Rows) : Type 0 where
    grown : (r : Mode) (k : ℕ) (w : Bool) (n : Option Among) (m : Mode) (s : State) → Grown picked s (regions.rows_do ns class call r k w n rs m s)

  paid_grown : (d : Doing) (m : Mode) → ((s : State) → Grown picked s (d m s)) → (s : State) → Grown picked s (pay_first d m s)
  paid_grown d m h s = grown_after picked s (pay s.steps s) (d m) (Signals false) (same_grown picked s _ (pay_same s.steps s)) h (λ t. same_grown picked t _ refl)

  no_rows_grown : RowsGrown no_rows
  no_rows_grown = record { grown = λ r k w n m s. same_grown picked s _ refl }

  blank_grown : (rs : trees.Rows) → RowsGrown rs → RowsGrown (row blank no_others rs)
  blank_grown rs h =
      record {
        grown = λ r k w n m s.
            let next = first_rows r rs (suc k) n in
            grown_after picked s (pay_first (regions.act ns class call r k w next blank) m s) _ (Signals false)
            (paid_grown (regions.act ns class call r k w next blank) m
            (choosing_grown picked k w (finds call k [] r) (λ m t. Signals true t) (λ g t. Signals true t) m (finds_grown picked call calls_grown k [] r m) (λ t. same_grown picked t _ refl) (λ g t. same_grown picked t _ refl)) s)
            (λ t. h.grown r (suc k) false n m t)
            (λ t. same_grown picked t _ refl);
      }

  mutual
    blanks_grown : (t : trees.Command) (rest : trees.Rows) → RowsGrown rest → RowsGrown (blanks t rest)
    blanks_grown (bracket rs) rest h = blanks_rows_grown rs rest h
    blanks_grown (prefixed x c) rest h = blanks_grown c rest h
    blanks_grown (counted x e c) rest h = blanks_grown c rest h
    blanks_grown (setlimit_ b c) rest h = blanks_grown b (blanks c rest) (blanks_grown c rest h)
    blanks_grown (among_ s gs) rest h = blank_grown (blanks_starter s (blanks_groups gs rest)) (blanks_starter_grown s (blanks_groups gs rest) (blanks_groups_grown gs rest h))
    blanks_grown _ rest h = h

    blanks_rows_grown : (rs : trees.Rows) (rest : trees.Rows) → RowsGrown rest → RowsGrown (blanks_rows rs rest)
    blanks_rows_grown no_rows rest h = h
    blanks_rows_grown (row c os rs) rest h = blanks_grown c (blanks_others os (blanks_rows rs rest)) (blanks_others_grown os (blanks_rows rs rest) (blanks_rows_grown rs rest h))

    blanks_others_grown : (os : trees.Others) (rest : trees.Rows) → RowsGrown rest → RowsGrown (blanks_others os rest)
    blanks_others_grown no_others rest h = h
    blanks_others_grown (joined j c os) rest h = blanks_grown c (blanks_others os rest) (blanks_others_grown os rest h)

    blanks_starter_grown : (s : trees.Starter) (rest : trees.Rows) → RowsGrown rest → RowsGrown (blanks_starter s rest)
    blanks_starter_grown no_starter rest h = h
    blanks_starter_grown (starter rs) rest h = blanks_rows_grown rs rest h

    blanks_groups_grown : (gs : trees.Groups) (rest : trees.Rows) → RowsGrown rest → RowsGrown (blanks_groups gs rest)
    blanks_groups_grown (bare es) rest h = h
    blanks_groups_grown (group e es rs gs) rest h = blanks_rows_grown rs (blanks_groups gs rest) (blanks_groups_grown gs rest h)

  -- the groups of a hole
  abbrev pub in_hole : trees.Starter → trees.Groups → trees.Groups
  in_hole st gs = group (entry nothing None) [] (blanks_starter st (blanks_groups gs no_rows)) (bare [])

  pub in_hole_grown : (st : trees.Starter) (gs : trees.Groups) (r : Mode) (k g : ℕ) (m : Mode) (s : State) → Grown picked s (regions.group_does ns class call r k (in_hole st gs) g m s)
  in_hole_grown st gs r k zero m s =
      let rs = blanks_starter st (blanks_groups gs no_rows) in
      let h : RowsGrown rs = blanks_starter_grown st (blanks_groups gs no_rows) (blanks_groups_grown gs no_rows no_rows_grown) in
      paid_grown (regions.rows_do ns class call r k false None rs) m (λ t. h.grown r k false None m t) s
  in_hole_grown st gs r k (suc g) m s = same_grown picked s _ refl

-- ---- a command and the same with holes, in the i-th routine

module _ (picked : Touch → Bool) (ns : DeclaredNames) (class class' : List ℕ → ℕ → Bool) (classes_alike : (n : List ℕ) → picked (Tested (place_of (ns kinds.Groupings) n)) ≡ false → class' n ≡ class n)
    (call call' : List ℕ → Doing) (i : ℕ) (calls_alike : (n : List ℕ) → Alike picked i (call n) (call' n)) (holes : ℕ → Bool) (spot : (k : ℕ) → picked (Searched i k) ≡ holes (suc k)) where
  -- what a `substring` finds ahead is alike
  pub record Like (n n' : Option Among) : Type 0 where
    pub search : Alike picked i (parts.search_ahead ns class call n) (parts.search_ahead ns class' call' n')

  pub none_like : Like None None
  none_like = record { search = record { in_mode = λ m. signals_pair picked i false } }

  found_spoiled : (r : Mode) (k k' : ℕ) (gs gs' : trees.Groups) → holes (suc k) ≡ true → k' ≡ k → Alike picked i (finds call k (offers 0 gs) r) (finds call' k' (offers 0 gs') r)
  found_spoiled r k k' gs gs' c p =
      subst (λ j. Alike picked i (finds call k (offers 0 gs) r) (finds call' j (offers 0 gs') r)) (sym p)
      (finds_spoiled picked call call' i calls_alike k (spot k ∙ c) (offers 0 gs) (offers 0 gs') r r)

  found_alike : (r : Mode) (k k' j : ℕ) (gs : trees.Groups) → holes (suc k) ≡ false → k' ≡ k → Alike picked i (finds call k (offers 0 gs) r) (finds call' k' (offers 0 (groups_with_holes holes j gs)) r)
  found_alike r k k' j gs c p =
      subst (λ l. Alike picked i (finds call k (offers 0 gs) r) (finds call' l (offers 0 (groups_with_holes holes j gs)) r)) (sym p)
      (subst (λ os. Alike picked i (finds call k (offers 0 gs) r) (finds call' k os r)) (sym (offers_same holes gs j 0))
      (finds_alike picked call call' i calls_alike k (spot k ∙ c) (offers 0 gs) r))

  like_among : (r : Mode) (k k' : ℕ) (st : trees.Starter) (gs : trees.Groups) (n' : Option Among) (b : Bool) → holes (suc k) ≡ b → k' ≡ k
      → Like (Some (among_at r k gs)) (first r (if b then hole st gs else among_ (starter_with_holes holes (suc k) st) (groups_with_holes holes (number_after_starter st (suc k)) gs)) k' n')
  like_among r k k' st gs n' true e p = record { search = found_spoiled r k k' gs (in_hole picked ns class' call' (grown_call' picked call call' i calls_alike) st gs) e p }
  like_among r k k' st gs n' false e p = record { search = found_alike r k k' (number_after_starter st (suc k)) gs e p }

  mutual
    first_like : (t : trees.Command) (r : Mode) (k k' : ℕ) (n n' : Option Among) → k' ≡ k → Like n n' → Like (first r t k n) (first r (with_holes holes k t) k' n')
    first_like (bracket rs) r k k' n n' p h = first_rows_like rs r k k' n n' p h
    first_like (prefixed x c) r k k' n n' p h = first_like c (mode_under x r) k k' n n' p h
    first_like (counted x e c) r k k' n n' p h = first_like c r k k' n n' p h
    first_like (setlimit_ b c) r k k' n n' p h = first_like b r k k' _ _ p (first_like c r (number_after b k) _ n n' (after_same holes b k k' p) h)
    first_like (among_ st gs) r k k' n n' p h = like_among r k k' st gs n' (holes (suc k)) refl p
    first_like _ r k k' n n' p h = h

    first_rows_like : (rs : trees.Rows) (r : Mode) (k k' : ℕ) (n n' : Option Among) → k' ≡ k → Like n n' → Like (first_rows r rs k n) (first_rows r (rows_with_holes holes k rs) k' n')
    first_rows_like no_rows r k k' n n' p h = h
    first_rows_like (row c os rs) r k k' n n' p h =
        let p1 = after_same holes c k k' p in
        let p2 = after_others_same holes os (number_after c k) _ p1 in
        first_like c r k k' _ _ p (first_others_like os r (number_after c k) _ _ _ p1 (first_rows_like rs r (number_after_others os (number_after c k)) _ n n' p2 h))

    pub first_others_like : (os : trees.Others) (r : Mode) (k k' : ℕ) (n n' : Option Among) → k' ≡ k → Like n n' → Like (first_others r os k n) (first_others r (others_with_holes holes k os) k' n')
    first_others_like no_others r k k' n n' p h = h
    first_others_like (joined j c os) r k k' n n' p h =
        first_like c r k k' _ _ p (first_others_like os r (number_after c k) _ n n' (after_same holes c k k' p) h)

  -- the test of a grouping
  one_of_grown : (w : Bool) (has : ℕ → Bool) (m : Mode) (s : State) → Grown picked s (one_of w has m s)
  one_of_grown w has m s = same_grown picked s _ (class_same w has m s)

  tests_by : (w : Bool) (x : List ℕ) (m : Mode) (b : Bool) → picked (Tested (place_of (ns kinds.Groupings) x)) ≡ b → Pair picked i (tests ns class w x m) (tests ns class' w x m)
  tests_by w x m true c =
      touched_spoiled picked i (Tested (place_of (ns kinds.Groupings) x)) (one_of w (class x) m) (one_of w (class' x) m) c (one_of_grown w (class x) m) (one_of_grown w (class' x) m)
  tests_by w x m false c =
      let g = place_of (ns kinds.Groupings) x in
      subst (λ has. Pair picked i (tests ns class w x m) (λ s. one_of w has m (touching picked (Tested g) s))) (sym (classes_alike x c))
      (touched_pair picked i (λ s. Tested g) (one_of w (class x) m) (one_of w (class x) m) (same_pair picked i _ (class_same w (class x) m)))

  tests_pair : (w : Bool) (x : List ℕ) (m : Mode) → Pair picked i (tests ns class w x m) (tests ns class' w x m)
  tests_pair w x m = tests_by w x m _ refl

  -- a name alone
  name_pair : (x : List ℕ) (m : Mode) → Pair picked i (meaning.name_does ns class call x m) (meaning.name_does ns class' call' x m)
  name_pair x m =
      if_pair picked i (is_member (ns kinds.Strings) x) _ _ _ _ (same_pair picked i (λ s. match (slice_index_or s.strings (place_of (ns kinds.Strings) x) []) m s) (λ s. match_same (slice_index_or s.strings (place_of (ns kinds.Strings) x) []) m s))
      (if_pair picked i (is_member (ns kinds.Booleans) x) _ _ _ _ (same_pair picked i _ (λ s. refl))
      (if_pair picked i (is_member (ns kinds.Groupings) x) _ _ _ _ (tests_pair true x m) ((calls_alike x).in_mode m)))

  abbrev does : Mode → ℕ → Bool → Option Among → trees.Command → Doing
  does = regions.act ns class call

  abbrev does' : Mode → ℕ → Bool → Option Among → trees.Command → Doing
  does' = regions.act ns class' call'

  among_alike : (r : Mode) (k : ℕ) (w : Bool) (n n' : Option Among) (st : trees.Starter) (gs : trees.Groups) (b : Bool) → holes (suc k) ≡ b
      → Alike picked i (regions.starter_does ns class call r (suc k) st) (regions.starter_does ns class' call' r (suc k) (starter_with_holes holes (suc k) st))
      → ((g : ℕ) → Alike picked i (regions.group_does ns class call r (number_after_starter st (suc k)) gs g)
      (regions.group_does ns class' call' r (number_after_starter (starter_with_holes holes (suc k) st) (suc k)) (groups_with_holes holes (number_after_starter st (suc k)) gs) g))
      → Alike picked i (does r k w n (among_ st gs)) (does' r k w n' (if b then hole st gs else among_ (starter_with_holes holes (suc k) st) (groups_with_holes holes (number_after_starter st (suc k)) gs)))
  among_alike r k w n n' st gs true e starts groups =
      let calls_grown = grown_call' picked call call' i calls_alike in
      let inside = in_hole picked ns class' call' calls_grown st gs in
      record {
        in_mode = λ m.
            hole_pair picked call call' i calls_alike k (spot k ∙ e) (offers 0 gs) (offers 0 inside) r r
            (regions.starter_does ns class call r (suc k) st) (λ m s. Signals true s)
            (λ g. regions.group_does ns class call r (number_after_starter st (suc k)) gs g m) (λ g. regions.group_does ns class' call' r (suc k) inside g m) m
            (starts.in_mode m).grown (λ s. same_grown picked s _ refl) (λ g. ((groups g).in_mode m).grown) (λ g. in_hole_grown picked ns class' call' calls_grown st gs r (suc k) g m) w;
      }
  among_alike r k w n n' st gs false e starts groups =
      let l = number_after_starter (starter_with_holes holes (suc k) st) (suc k) in
      let inside = groups_with_holes holes (number_after_starter st (suc k)) gs in
      record {
        in_mode = λ m.
            choosing_pair picked call call' i calls_alike k w (finds call k (offers 0 gs) r) (finds call' k (offers 0 inside) r)
            (regions.starter_does ns class call r (suc k) st) (regions.starter_does ns class' call' r (suc k) (starter_with_holes holes (suc k) st))
            (λ g. regions.group_does ns class call r (number_after_starter st (suc k)) gs g m) (λ g. regions.group_does ns class' call' r l inside g m) m
            (found_alike r k k (number_after_starter st (suc k)) gs e refl) starts (λ g. (groups g).in_mode m);
      }

  mutual
    pub act_alike : (t : trees.Command) (r : Mode) (k k' : ℕ) (w w' : Bool) (n n' : Option Among) → k' ≡ k → w' ≡ w → Like n n' → Alike picked i (does r k w n t) (does' r k' w' n' (with_holes holes k t))
    act_alike (bracket rs) r k k' w w' n n' p q h = rows_alike rs r k k' w w' n n' p q h
    act_alike (simple_ x) r k k' w w' n n' p q h =
        record { in_mode = λ m. simple_pair picked i x (parts.search_ahead ns class call n) (parts.search_ahead ns class' call' n') h.search m }
    act_alike (literal_ x) r k k' w w' n n' p q h = record { in_mode = λ m. same_pair picked i _ (match_same x.value m) }
    act_alike (name_ x) r k k' w w' n n' p q h = record { in_mode = λ m. name_pair x m }
    act_alike (non_ b x) r k k' w w' n n' p q h = record { in_mode = λ m. tests_pair false x m }
    act_alike (prefixed x c) r k k' w w' n n' p q h =
        record { in_mode = λ m. prefixed_pair picked i x _ _ (paid_alike picked i _ _ (act_alike c (mode_under x r) k k' w w' n n' p q h)) m }
    act_alike (counted x e c) r k k' w w' n n' p q h =
        record { in_mode = λ m. from_pair picked i (λ s. worth ns e m s) _ _ (λ v. counted_pair picked i x v (pay_first (does r k w n c)) (pay_first (does' r k' w' n' (with_holes holes k c))) (paid_alike picked i _ _ (act_alike c r k k' w w' n n' p q h)) m) }
    act_alike (move_ x e) r k k' w w' n n' p q h = record { in_mode = λ m. same_pair picked i _ (λ s. moves_same x (worth ns e m s) m s) }
    act_alike (named x y) r k k' w w' n n' p q h = record { in_mode = λ m. same_pair picked i _ (named_same ns x y m) }
    act_alike (splice_ x a) r k k' w w' n n' p q h = record { in_mode = λ m. same_pair picked i _ (λ s. edited_same x (text ns a s) m s) }
    act_alike (setlimit_ b c) r k k' w w' n n' p q h =
        let p1 = after_same holes b k k' p in
        let ahead = first_like c r (number_after b k) _ n n' p1 h in
        record {
          in_mode = λ m.
              limited_pair picked i _ _ _ _ (paid_alike picked i _ _ (act_alike b r k k' w w' _ _ p q ahead))
              (paid_alike picked i _ _ (act_alike c r (number_after b k) _ (waits b w) _ n n' p1 (waits_same holes b k w w' q) h)) m;
        }
    act_alike (assign_ x o e) r k k' w w' n n' p q h = record { in_mode = λ m. same_pair picked i _ (λ s. assigned_same (place_of (ns kinds.Integers) x) o (worth ns e m s) s) }
    act_alike (compare_ x o e) r k k' w w' n n' p q h = record { in_mode = λ m. same_pair picked i _ (λ s. compared_same o (Ok (integer_at (place_of (ns kinds.Integers) x) s)) (worth ns e m s) s) }
    act_alike (compare_values_ e o f) r k k' w w' n n' p q h = record { in_mode = λ m. same_pair picked i _ (λ s. compared_same o (worth ns e m s) (worth ns f m s) s) }
    act_alike (among_ st gs) r k k' w w' n n' p q h =
        let t = among_ st gs in
        subst (λ j. Alike picked i (does r k w n t) (does' r j w' n' (with_holes holes k t))) (sym p)
        (subst (λ v. Alike picked i (does r k w n t) (does' r k v n' (with_holes holes k t))) (sym q)
        (among_alike r k w n n' st gs (holes (suc k)) refl (starter_alike st r (suc k) (suc k) refl)
        (λ g. groups_alike gs g r (number_after_starter st (suc k)) _ (after_starter_same holes st (suc k) (suc k) refl))))

    rows_alike : (rs : trees.Rows) (r : Mode) (k k' : ℕ) (w w' : Bool) (n n' : Option Among) → k' ≡ k → w' ≡ w → Like n n' → Alike picked i (regions.rows_do ns class call r k w n rs) (regions.rows_do ns class' call' r k' w' n' (rows_with_holes holes k rs))
    rows_alike no_rows r k k' w w' n n' p q h = record { in_mode = λ m. signals_pair picked i true }
    rows_alike (row c os rs) r k k' w w' n n' p q h =
        let p1 = after_same holes c k k' p in
        let p2 = after_others_same holes os (number_after c k) _ p1 in
        let q1 = waits_same holes c k w w' q in
        let q2 = waits_others_same holes os (number_after c k) _ _ q1 in
        let h2 = first_rows_like rs r (number_after_others os (number_after c k)) _ n n' p2 h in
        let h1 = first_others_like os r (number_after c k) _ _ _ p1 h2 in
        record {
          in_mode = λ m.
              after_pair picked i _ _ _ _ _ _
              ((paid_alike picked i _ _ (others_alike os r (number_after c k) _ (waits c w) _ _ _ _ _ p1 q1 h2 (act_alike c r k k' w w' _ _ p q h1))).in_mode m)
              (λ s. (rows_alike rs r (number_after_others os (number_after c k)) _ (waits_others os (waits c w)) _ n n' p2 q2 h).in_mode m)
              (λ s. signals_pair picked i false);
        }

    pub others_alike : (os : trees.Others) (r : Mode) (k k' : ℕ) (w w' : Bool) (n n' : Option Among) (d d' : Doing) → k' ≡ k → w' ≡ w → Like n n' → Alike picked i d d' → Alike picked i (regions.others_do ns class call r k w n os d) (regions.others_do ns class' call' r k' w' n' (others_with_holes holes k os) d')
    others_alike no_others r k k' w w' n n' d d' p q h a = a
    others_alike (joined j c os) r k k' w w' n n' d d' p q h a =
        let p1 = after_same holes c k k' p in
        let h1 = first_others_like os r (number_after c k) _ n n' p1 h in
        others_alike os r (number_after c k) _ (waits c w) _ n n' _ _ p1 (waits_same holes c k w w' q) h
        (joined_alike picked i j _ _ _ _ (paid_alike picked i d d' a) (paid_alike picked i _ _ (act_alike c r k k' w w' _ _ p q h1)))

    starter_alike : (st : trees.Starter) (r : Mode) (k k' : ℕ) → k' ≡ k → Alike picked i (regions.starter_does ns class call r k st) (regions.starter_does ns class' call' r k' (starter_with_holes holes k st))
    starter_alike no_starter r k k' p = record { in_mode = λ m. signals_pair picked i true }
    starter_alike (starter rs) r k k' p = paid_alike picked i _ _ (rows_alike rs r k k' false false None None p refl none_like)

    groups_alike : (gs : trees.Groups) (g : ℕ) (r : Mode) (k k' : ℕ) → k' ≡ k → Alike picked i (regions.group_does ns class call r k gs g) (regions.group_does ns class' call' r k' (groups_with_holes holes k gs) g)
    groups_alike (bare es) g r k k' p = record { in_mode = λ m. signals_pair picked i true }
    groups_alike (group e es rs gs) zero r k k' p = paid_alike picked i _ _ (rows_alike rs r k k' false false None None p refl none_like)
    groups_alike (group e es rs gs) (suc g) r k k' p = groups_alike gs g r (number_after_rows rs k) _ (after_rows_same holes rs k k' p)

  -- a routine's row
  pub row_alike : (r : Mode) (c : trees.Command) (os : trees.Others) → Alike picked i (parts.row_does ns class call r c os) (parts.row_does ns class' call' r (with_holes holes 0 c) (others_with_holes holes (number_after c 0) os))
  row_alike r c os =
      let p1 = after_same holes c 0 0 refl in
      let h1 = first_others_like os r (number_after c 0) _ None None p1 none_like in
      others_alike os r (number_after c 0) _ (waits c false) _ None None _ _ p1 (waits_same holes c 0 false false refl) none_like (act_alike c r 0 0 false false _ _ refl refl h1)
