-- The last class of a list, seen as a class by `view`.
use Rattle.std.proofs.Common.{◌≡◌, ◌∙◌, ◌-◌, ◌<◌, ◌++◌, ◌∷◌, [], ℕ, suc, List, map, length, Some, slice_get, slice_index_or, slice_set, arith, ap, subst}
use Rattle.std.specs.declared.vec.Vec.{Vec}
use Rattle.std.specs.declared.alloc.Global.{Global}
use Rattle.std.specs.Str.{bytes_eq}
use Rattle.std.specs.Vec.{vec_len}
use Rattle.sbl_rows.specs.Classes.{Class}
use Rattle.sbl_rows.specs.Grouping.{is_last, put_in_last}

pub last_stem : {C : Type 0} (view : C → Class) (stem : List ℕ) (cs : List C) (n : ℕ) (c : C) → n ≡ length cs - 1 → slice_get cs n ≡ Some c
    → is_last stem (map view cs) ≡ bytes_eq (view c).stem stem
last_stem {C} view stem [] n c e h = cc h
last_stem {C} view stem (d ∷ []) n c e h =
    let z : n ≡ 0 = omega (arith, e) in
    let same : Some d ≡ Some c = subst (λ (k : ℕ). slice_get (d ∷ []) k ≡ Some c) z h in
    let one : d ≡ c = cc same in
    ap (λ (x : C). bytes_eq (view x).stem stem) one
last_stem {C} view stem (d ∷ f ∷ cs) n c e h =
    let z : n ≡ suc (length cs) = omega (arith, e) in
    last_stem view stem (f ∷ cs) (length cs) c (omega arith) (subst (λ (k : ℕ). slice_get (d ∷ f ∷ cs) k ≡ Some c) z h)

-- one member more in the last class
pub last_member : {C : Type 0} (view : C → Class) (cs : List C) (n : ℕ) (c new : C) (member : List ℕ) → n ≡ length cs - 1 → 0 < length cs → c ≡ slice_index_or cs n c
    → (view new).stem ≡ (view c).stem → (view new).members ≡ (view c).members ++ member ∷ [] → map view (slice_set cs n new) ≡ put_in_last (map view cs) member
last_member {C} view [] n c new member e some h same more = absurd (omega (arith, some))
last_member {C} view (d ∷ []) n c new member e some h same more =
    let z : n ≡ 0 = omega (arith, e) in
    let one : c ≡ d = subst (λ (k : ℕ). c ≡ slice_index_or (d ∷ []) k c) z h in
    ap (λ (k : ℕ). map view (slice_set (d ∷ []) k new)) z
    ∙ (λ i. record { stem = (same ∙ ap (λ (x : C). (view x).stem) one) i; members = (more ∙ ap (λ (x : C). (view x).members ++ member ∷ []) one) i } ∷ [])
last_member {C} view (d ∷ f ∷ cs) n c new member e some h same more =
    let z : n ≡ suc (length cs) = omega (arith, e) in
    ap (λ (k : ℕ). map view (slice_set (d ∷ f ∷ cs) k new)) z
    ∙ ap (λ l. view d ∷ l) (last_member view (f ∷ cs) (length cs) c new member (omega arith) (omega arith) (subst (λ (k : ℕ). c ≡ slice_index_or (d ∷ f ∷ cs) k c) z h) same more)

-- the same in a vector
pub last_in_vec : {C : Type 0} (view : C → Class) (cs : Vec C Global) (c new : C) (member : List ℕ) → 0 < vec_len cs → c ≡ slice_index_or cs.items (vec_len cs - 1) c
    → (view new).stem ≡ (view c).stem → (view new).members ≡ (view c).members ++ member ∷ [] → map view (slice_set cs.items (vec_len cs - 1) new) ≡ put_in_last (map view cs.items) member
last_in_vec {C} view cs c new member some = let k = cs.ok.0 in last_member view cs.items (vec_len cs - 1) c new member (omega arith) (omega arith)
