-- What the landmarks of a part say: how many amongs it has, whether a `substring` waits after it, and which among comes first.
use Rattle.std.proofs.Common.{◌≡◌, ◌∙◌, ◌+◌, ◌++◌, ℕ, suc, Bool, true, false, List, [], ◌∷◌, Option, refl, sym, ap, append_assoc, arith}
use Rattle.std.specs.List.{fold}
use Rattle.std.proofs.lemmas.Grind.{fold-append}
use Rattle.sbl_ast.specs.declared.mode.Mode.{Mode}
use Rattle.sbl_ast.specs.declared.tree.Simple.{Simple}
use Rattle.sbl_ast.specs.declared.tree.Simple.TheVariants as simples
use Rattle.sbl_ast.specs.Tree.{Command, Rows, Others, Starter, Groups, bracket, simple_, literal_, name_, non_, prefixed, counted, move_, named, splice_, setlimit_, assign_, compare_, compare_values_, among_, no_rows, row, no_others, joined, no_starter, starter, bare, group}
use Rattle.sbl_semantics.specs.Landmarks.{Among, Landmark, substring, region_end, among, mode_under, amongs_in, ends_in_substring, next_among, landmarks, landmarks_in_rows, landmarks_in_others, landmarks_in_starter, landmarks_in_groups}
use Rattle.sbl_semantics.specs.Regions.{number_after, number_after_rows, number_after_others, number_after_starter, number_after_groups, first, first_rows, first_others, waits, waits_rows, waits_others}

-- ---- how many amongs

pub amongs_append : (xs ys : List Landmark) → amongs_in (xs ++ ys) ≡ amongs_in xs + amongs_in ys
amongs_append [] ys = omega arith
amongs_append (among m gs ∷ xs) ys = let h = amongs_append xs ys in omega (arith, h)
amongs_append (substring ∷ xs) ys = amongs_append xs ys
amongs_append (region_end ∷ xs) ys = amongs_append xs ys

pub none_more : (k : ℕ) → k ≡ k + 0
none_more k = omega arith

mutual
  pub number_is : (t : Command) (m : Mode) (k : ℕ) → number_after t k ≡ k + amongs_in (landmarks m t)
  number_is (bracket rs) m k = number_rows rs m k
  number_is (simple_ simples.Substring) m k = none_more k
  number_is (simple_ x) m k = none_more k
  number_is (literal_ x) m k = none_more k
  number_is (name_ x) m k = none_more k
  number_is (non_ x y) m k = none_more k
  number_is (prefixed x c) m k = number_is c (mode_under x m) k
  number_is (counted x e c) m k = number_is c m k
  number_is (move_ x y) m k = none_more k
  number_is (named x y) m k = none_more k
  number_is (splice_ x y) m k = none_more k
  number_is (setlimit_ b c) m k =
      let x = number_is b m k in
      let y = number_is c m (number_after b k) in
      let z = amongs_append (landmarks m b) (landmarks m c) in
      omega (arith, x, y, z)
  number_is (assign_ x y z) m k = none_more k
  number_is (compare_ x y z) m k = none_more k
  number_is (compare_values_ x y z) m k = none_more k
  number_is (among_ s gs) m k =
      let x = number_starter s m (suc k) in
      let y = number_groups gs m (number_after_starter s (suc k)) in
      let z = amongs_append (landmarks_in_starter m s) (landmarks_in_groups m gs) in
      omega (arith, x, y, z)

  pub number_rows : (rs : Rows) (m : Mode) (k : ℕ) → number_after_rows rs k ≡ k + amongs_in (landmarks_in_rows m rs)
  number_rows no_rows m k = none_more k
  number_rows (row c os rs) m k =
      let x = number_is c m k in
      let y = number_others os m (number_after c k) in
      let z = number_rows rs m (number_after_others os (number_after c k)) in
      let u = amongs_append (landmarks m c) (landmarks_in_others m os ++ landmarks_in_rows m rs) in
      let v = amongs_append (landmarks_in_others m os) (landmarks_in_rows m rs) in
      omega (arith, x, y, z, u, v)

  pub number_others : (os : Others) (m : Mode) (k : ℕ) → number_after_others os k ≡ k + amongs_in (landmarks_in_others m os)
  number_others no_others m k = none_more k
  number_others (joined j c os) m k =
      let x = number_is c m k in
      let y = number_others os m (number_after c k) in
      let z = amongs_append (landmarks m c) (landmarks_in_others m os) in
      omega (arith, x, y, z)

  pub number_starter : (s : Starter) (m : Mode) (k : ℕ) → number_after_starter s k ≡ k + amongs_in (landmarks_in_starter m s)
  number_starter no_starter m k = none_more k
  number_starter (starter rs) m k =
      let x = number_rows rs m k in
      let y = amongs_append (landmarks_in_rows m rs) (region_end ∷ []) in
      omega (arith, x, y)

  pub number_groups : (gs : Groups) (m : Mode) (k : ℕ) → number_after_groups gs k ≡ k + amongs_in (landmarks_in_groups m gs)
  number_groups (bare es) m k = none_more k
  number_groups (group e es rs gs) m k =
      let x = number_rows rs m k in
      let y = number_groups gs m (number_after_rows rs k) in
      let z = amongs_append (landmarks_in_rows m rs) (region_end ∷ landmarks_in_groups m gs) in
      omega (arith, x, y, z)

-- ---- whether a `substring` waits

-- after a landmark, if one waited before it or not
abbrev pub waits_past : Bool → Landmark → Bool
waits_past w l = elim l [ substring ↦ true | region_end ↦ false | among m gs ↦ false ]

abbrev pub waits_through : List Landmark → Bool → Bool
waits_through ls w = fold waits_past w ls

through_append : (xs ys : List Landmark) (w : Bool) → waits_through (xs ++ ys) w ≡ waits_through ys (waits_through xs w)
through_append xs ys w = fold-append waits_past w xs ys

pub ends_append : (xs ys : List Landmark) → ends_in_substring (xs ++ ys) ≡ waits_through ys (ends_in_substring xs)
ends_append xs ys = through_append xs ys false

ends_region : (xs ys : List Landmark) (w : Bool) → waits_through (xs ++ region_end ∷ ys) w ≡ waits_through ys false
ends_region xs ys w = through_append xs (region_end ∷ ys) w

pub none_after_starter : (s : Starter) (m : Mode) → waits_through (landmarks_in_starter m s) false ≡ false
none_after_starter no_starter m = refl
none_after_starter (starter rs) m = ends_region (landmarks_in_rows m rs) [] false

none_after_groups : (gs : Groups) (m : Mode) → waits_through (landmarks_in_groups m gs) false ≡ false
none_after_groups (bare es) m = refl
none_after_groups (group e es rs gs) m = ends_region (landmarks_in_rows m rs) (landmarks_in_groups m gs) false ∙ none_after_groups gs m

mutual
  pub waits_is : (t : Command) (m : Mode) (w : Bool) → waits t w ≡ waits_through (landmarks m t) w
  waits_is (bracket rs) m w = waits_rows_is rs m w
  waits_is (simple_ simples.Substring) m w = refl
  waits_is (simple_ simples.LeftBracket) m w = refl
  waits_is (simple_ simples.RightBracket) m w = refl
  waits_is (simple_ simples.Next) m w = refl
  waits_is (simple_ simples.ToLimit) m w = refl
  waits_is (simple_ simples.AtLimit) m w = refl
  waits_is (simple_ simples.Delete) m w = refl
  waits_is (simple_ simples.True) m w = refl
  waits_is (simple_ simples.False) m w = refl
  waits_is (literal_ x) m w = refl
  waits_is (name_ x) m w = refl
  waits_is (non_ x y) m w = refl
  waits_is (prefixed x c) m w = waits_is c (mode_under x m) w
  waits_is (counted x e c) m w = waits_is c m w
  waits_is (move_ x y) m w = refl
  waits_is (named x y) m w = refl
  waits_is (splice_ x y) m w = refl
  waits_is (setlimit_ b c) m w =
      waits_is c m (waits b w) ∙ ap (waits_through (landmarks m c)) (waits_is b m w) ∙ sym (through_append (landmarks m b) (landmarks m c) w)
  waits_is (assign_ x y z) m w = refl
  waits_is (compare_ x y z) m w = refl
  waits_is (compare_values_ x y z) m w = refl
  waits_is (among_ s gs) m w =
      sym (through_append (landmarks_in_starter m s) (landmarks_in_groups m gs) false
      ∙ ap (waits_through (landmarks_in_groups m gs)) (none_after_starter s m) ∙ none_after_groups gs m)

  pub waits_rows_is : (rs : Rows) (m : Mode) (w : Bool) → waits_rows rs w ≡ waits_through (landmarks_in_rows m rs) w
  waits_rows_is no_rows m w = refl
  waits_rows_is (row c os rs) m w =
      waits_rows_is rs m (waits_others os (waits c w))
      ∙ ap (waits_through (landmarks_in_rows m rs)) (waits_others_is os m (waits c w) ∙ ap (waits_through (landmarks_in_others m os)) (waits_is c m w))
      ∙ sym (through_append (landmarks m c) (landmarks_in_others m os ++ landmarks_in_rows m rs) w
      ∙ through_append (landmarks_in_others m os) (landmarks_in_rows m rs) (waits_through (landmarks m c) w))

  pub waits_others_is : (os : Others) (m : Mode) (w : Bool) → waits_others os w ≡ waits_through (landmarks_in_others m os) w
  waits_others_is no_others m w = refl
  waits_others_is (joined j c os) m w =
      waits_others_is os m (waits c w) ∙ ap (waits_through (landmarks_in_others m os)) (waits_is c m w)
      ∙ sym (through_append (landmarks m c) (landmarks_in_others m os) w)

-- ---- which among comes first

pub not_waiting : (x : Simple) (m : Mode) (k : ℕ) (n : Option Among) (rest : List Landmark) → n ≡ next_among k rest → n ≡ next_among k (landmarks m (simple_ x) ++ rest)
not_waiting simples.Substring m k n rest h = h
not_waiting _ m k n rest h = h

mutual
  pub first_is : (t : Command) (m : Mode) (k : ℕ) (n : Option Among) (rest : List Landmark) → n ≡ next_among (number_after t k) rest → first m t k n ≡ next_among k (landmarks m t ++ rest)
  first_is (bracket rs) m k n rest h = first_rows_is rs m k n rest h
  first_is (simple_ x) m k n rest h = not_waiting x m k n rest h
  first_is (literal_ x) m k n rest h = h
  first_is (name_ x) m k n rest h = h
  first_is (non_ x y) m k n rest h = h
  first_is (prefixed x c) m k n rest h = first_is c (mode_under x m) k n rest h
  first_is (counted x e c) m k n rest h = first_is c m k n rest h
  first_is (move_ x y) m k n rest h = h
  first_is (named x y) m k n rest h = h
  first_is (splice_ x y) m k n rest h = h
  first_is (setlimit_ b c) m k n rest h =
      first_is b m k (first m c (number_after b k) n) (landmarks m c ++ rest) (first_is c m (number_after b k) n rest h)
      ∙ ap (next_among k) (sym (append_assoc (landmarks m b) (landmarks m c) rest))
  first_is (among_ s gs) m k n rest h = refl
  first_is _ m k n rest h = h

  pub first_rows_is : (rs : Rows) (m : Mode) (k : ℕ) (n : Option Among) (rest : List Landmark) → n ≡ next_among (number_after_rows rs k) rest → first_rows m rs k n ≡ next_among k (landmarks_in_rows m rs ++ rest)
  first_rows_is no_rows m k n rest h = h
  first_rows_is (row c os rs) m k n rest h =
      let j = number_after c k in
      let i = number_after_others os j in
      let in_rows = first_rows_is rs m i n rest h in
      let in_others = first_others_is os m j (first_rows m rs i n) (landmarks_in_rows m rs ++ rest) in_rows in
      first_is c m k (first_others m os j (first_rows m rs i n)) (landmarks_in_others m os ++ (landmarks_in_rows m rs ++ rest)) in_others
      ∙ ap (λ (x : List Landmark). next_among k (landmarks m c ++ x)) (sym (append_assoc (landmarks_in_others m os) (landmarks_in_rows m rs) rest))
      ∙ ap (next_among k) (sym (append_assoc (landmarks m c) (landmarks_in_others m os ++ landmarks_in_rows m rs) rest))

  pub first_others_is : (os : Others) (m : Mode) (k : ℕ) (n : Option Among) (rest : List Landmark) → n ≡ next_among (number_after_others os k) rest → first_others m os k n ≡ next_among k (landmarks_in_others m os ++ rest)
  first_others_is no_others m k n rest h = h
  first_others_is (joined j c os) m k n rest h =
      first_is c m k (first_others m os (number_after c k) n) (landmarks_in_others m os ++ rest) (first_others_is os m (number_after c k) n rest h)
      ∙ ap (next_among k) (sym (append_assoc (landmarks m c) (landmarks_in_others m os) rest))
