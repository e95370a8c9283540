-- An among in the tree of a routine is one of its landmarks.
use Rattle.std.proofs.Common.{◌≡◌, ◌∙◌, ◌+◌, ◌++◌, ◌⊎◌, inl, inr, ℕ, suc, List, [], ◌∷◌, Option, sym, ap, append_assoc, arith}
use Rattle.sbl_ast.specs.declared.mode.Mode.{Mode}
use Rattle.sbl_ast.specs.Tree as trees
use Rattle.sbl_ast.specs.Tree.{bracket, simple_, literal_, name_, non_, prefixed, counted, move_, named, splice_, setlimit_, assign_, compare_, compare_values_, among_, no_rows, row, no_others, joined, no_starter, starter, bare, group}
use Rattle.sbl_semantics.specs.Items.{Body, DeclaredNames}
use Rattle.sbl_semantics.specs.Landmarks.{Among, Landmark, region_end, among, mode_under, amongs_in, landmarks, landmarks_in_rows, landmarks_in_others, landmarks_in_starter, landmarks_in_groups}
use Rattle.sbl_semantics.specs.Regions.{number_after, number_after_others, number_after_rows, number_after_starter}
use Rattle.sbl_semantics.proofs.LandmarkFacts.{amongs_append, none_more, number_is, number_others, number_rows, number_starter}
use Rattle.sbl_uses.specs.RoutineAmongs as routines
use Rattle.sbl_uses.specs.TreeAmongs.{HasAmong, IsIn, IsInBody, IsInGroups, IsInOthers, IsInRows, IsInStarter}

-- an among is one of these landmarks; k amongs of the routine come before them
abbrev Stands : Among → ℕ → List Landmark → Type 0
Stands a k own = (before : List Landmark) × (rest : List Landmark) × (a.number ≡ k + amongs_in before) × (own ≡ before ++ among a.mode a.groups ∷ rest)

in_first : (a : Among) (k : ℕ) (xs ys : List Landmark) → Stands a k xs → Stands a k (xs ++ ys)
in_first a k xs ys h = (h.0, h.1 ++ ys, h.2, ap (λ (l : List Landmark). l ++ ys) h.3 ∙ append_assoc h.0 (among a.mode a.groups ∷ h.1) ys)

in_second : (a : Among) (k j : ℕ) (xs ys : List Landmark) → j ≡ k + amongs_in xs → Stands a j ys → Stands a k (xs ++ ys)
in_second a k j xs ys e h =
    let p = h.2 in
    let q = amongs_append xs h.0 in
    let number : a.number ≡ k + amongs_in (xs ++ h.0) = omega (arith, p, q, e) in
    (xs ++ h.0, h.1, number, ap (λ (l : List Landmark). xs ++ l) h.3 ∙ sym (append_assoc xs h.0 (among a.mode a.groups ∷ h.1)))

mutual
  stands : (t : trees.Command) (a : Among) (r : Mode) (k : ℕ) → IsIn a r k t → Stands a k (landmarks r t)
  stands (bracket rs) a r k h = rows_stand rs a r k h
  stands (prefixed x c) a r k h = stands c a (mode_under x r) k h
  stands (counted x e c) a r k h = stands c a r k h
  stands (setlimit_ b c) a r k (inl h) = in_first a k (landmarks r b) (landmarks r c) (stands b a r k h)
  stands (setlimit_ b c) a r k (inr h) =
      in_second a k (number_after b k) (landmarks r b) (landmarks r c) (number_is b r k) (stands c a r (number_after b k) h)
  stands (among_ st gs) a r k (inl e) =
      let inside = landmarks_in_starter r st ++ landmarks_in_groups r gs in
      ([], inside, ap (λ (y : Among). y.number) e ∙ none_more k, ap (λ (y : Among). among y.mode y.groups ∷ inside) (sym e))
  stands (among_ st gs) a r k (inr (inl h)) =
      let in_starter = landmarks_in_starter r st in
      let in_groups = landmarks_in_groups r gs in
      let one : suc k ≡ k + 1 = omega arith in
      in_second a k (suc k) (among r gs ∷ []) (in_starter ++ in_groups) one (in_first a (suc k) in_starter in_groups (starter_stands st a r (suc k) h))
  stands (among_ st gs) a r k (inr (inr h)) =
      let in_starter = landmarks_in_starter r st in
      let in_groups = landmarks_in_groups r gs in
      let j = number_after_starter st (suc k) in
      let one : suc k ≡ k + 1 = omega arith in
      in_second a k (suc k) (among r gs ∷ []) (in_starter ++ in_groups) one
      (in_second a (suc k) j in_starter in_groups (number_starter st r (suc k)) (groups_stand gs a r j h))
  stands (simple_ x) a r k h = absurd h
  stands (literal_ q) a r k h = absurd h
  stands (name_ n) a r k h = absurd h
  stands (non_ b n) a r k h = absurd h
  stands (move_ x e) a r k h = absurd h
  stands (named x n) a r k h = absurd h
  stands (splice_ x y) a r k h = absurd h
  stands (assign_ n o e) a r k h = absurd h
  stands (compare_ n o e) a r k h = absurd h
  stands (compare_values_ e o f) a r k h = absurd h

  rows_stand : (rs : trees.Rows) (a : Among) (r : Mode) (k : ℕ) → IsInRows a r k rs → Stands a k (landmarks_in_rows r rs)
  rows_stand no_rows a r k h = absurd h
  rows_stand (row c os rs) a r k (inl h) = in_first a k (landmarks r c) (landmarks_in_others r os ++ landmarks_in_rows r rs) (stands c a r k h)
  rows_stand (row c os rs) a r k (inr (inl h)) =
      let j = number_after c k in
      in_second a k j (landmarks r c) (landmarks_in_others r os ++ landmarks_in_rows r rs) (number_is c r k)
      (in_first a j (landmarks_in_others r os) (landmarks_in_rows r rs) (others_stand os a r j h))
  rows_stand (row c os rs) a r k (inr (inr h)) =
      let j = number_after c k in
      let l = number_after_others os j in
      in_second a k j (landmarks r c) (landmarks_in_others r os ++ landmarks_in_rows r rs) (number_is c r k)
      (in_second a j l (landmarks_in_others r os) (landmarks_in_rows r rs) (number_others os r j) (rows_stand rs a r l h))

  others_stand : (os : trees.Others) (a : Among) (r : Mode) (k : ℕ) → IsInOthers a r k os → Stands a k (landmarks_in_others r os)
  others_stand no_others a r k h = absurd h
  others_stand (joined j c os) a r k (inl h) = in_first a k (landmarks r c) (landmarks_in_others r os) (stands c a r k h)
  others_stand (joined j c os) a r k (inr h) =
      in_second a k (number_after c k) (landmarks r c) (landmarks_in_others r os) (number_is c r k) (others_stand os a r (number_after c k) h)

  starter_stands : (st : trees.Starter) (a : Among) (r : Mode) (k : ℕ) → IsInStarter a r k st → Stands a k (landmarks_in_starter r st)
  starter_stands no_starter a r k h = absurd h
  starter_stands (starter rs) a r k h = in_first a k (landmarks_in_rows r rs) (region_end ∷ []) (rows_stand rs a r k h)

  groups_stand : (gs : trees.Groups) (a : Among) (r : Mode) (k : ℕ) → IsInGroups a r k gs → Stands a k (landmarks_in_groups r gs)
  groups_stand (bare es) a r k h = absurd h
  groups_stand (group e es rs gs) a r k (inl h) = in_first a k (landmarks_in_rows r rs) (region_end ∷ landmarks_in_groups r gs) (rows_stand rs a r k h)
  groups_stand (group e es rs gs) a r k (inr h) =
      let j = number_after_rows rs k in
      in_second a k j (landmarks_in_rows r rs) (region_end ∷ landmarks_in_groups r gs) (number_rows rs r k)
      (in_second a j j (region_end ∷ []) (landmarks_in_groups r gs) (none_more j) (groups_stand gs a r j h))

from_start : (a : Among) (own : List Landmark) → Stands a 0 own
    → (before : List Landmark) × (rest : List Landmark) × (a.number ≡ amongs_in before) × (own ≡ before ++ among a.mode a.groups ∷ rest)
from_start a own h = let p = h.2 in let number : a.number ≡ amongs_in h.0 = omega (arith, p) in (h.0, h.1, number, h.3)

in_body : (a : Among) (b : Body) → IsInBody a b → routines.IsInBody a b
in_body a b (inl h) =
    let own_c = landmarks b.mode b.first in
    let own_os = landmarks_in_others b.mode b.others in
    from_start a (own_c ++ own_os) (in_first a 0 own_c own_os (stands b.first a b.mode 0 h))
in_body a b (inr h) =
    let own_c = landmarks b.mode b.first in
    let own_os = landmarks_in_others b.mode b.others in
    let k = number_after b.first 0 in
    from_start a (own_c ++ own_os) (in_second a 0 k own_c own_os (number_is b.first b.mode 0) (others_stand b.others a b.mode k h))

pub has_landmark : (ns : DeclaredNames) (bodies : List ℕ → Option Body) (i : ℕ) (a : Among) → HasAmong ns bodies i a → routines.HasAmong ns bodies i a
has_landmark ns bodies i a h = (h.0, h.1, h.2, h.3, in_body a h.1 h.4)
