-- Values by number that are missing unless they were set in the current round.
use Rattle.std.proofs.Common.{◌≡◌, ℕ, zero, suc, ℤ, pos, ◌+◌, ◌<◌, ◌≤◌, Bool, true, false, List, [], ◌∷◌, ◌++◌, length, map, replicate, take, Result, Ok, Err, Option, Some, None, nat_eq, refl, sym, ap, ◌∙◌, arith, slice_set, slice_index_or}
use Rattle.std.specs.Prelude.{if◌then◌else◌, IfOk, MatchResult}
use Rattle.std.proofs.lemmas.List.{map-set, take_more}
use Rattle.std.proofs.lemmas.Bool.{eqb-true, eq-eqb}
use Rattle.sbl_run_state.specs.declared.slots.Slot.{Slot}
use Rattle.sbl_run_state.specs.Slots.{slot_value, slot_values, AreUpTo}

-- ---- one slot

not_now : {T : Type 0} (round : ℕ) (slot : Slot T) (b : Bool) → nat_eq slot.round round ≡ b → (slot.round ≡ round → ⊥) → slot_value round slot ≡ None
not_now round slot true p n = absurd (n (eqb-true slot.round round p))
not_now round slot false p n = ap (λ b. if b then Some slot.value else None) p

pub other_slot : {T : Type 0} (round : ℕ) (slot : Slot T) → (slot.round ≡ round → ⊥) → slot_value round slot ≡ None
other_slot round slot n = not_now round slot _ refl n

blank_slot : {T : Type 0} (round : ℕ) (slot : Slot T) → 0 < round → slot.round ≡ 0 → slot_value round slot ≡ None
blank_slot round slot l e = other_slot round slot (λ p. omega (arith, l, e, p))

pub set_slot : {T : Type 0} (round : ℕ) (slot : Slot T) → slot.round ≡ round → slot_value round slot ≡ Some slot.value
set_slot round slot e = ap (λ b. if b then Some slot.value else None) (eq-eqb slot.round round e)

-- ---- all slots

pub nothing : {T : Type 0} (round count : ℕ) → slot_values {T = T} round count [] ≡ replicate count None
nothing round zero = refl
nothing round (suc n) = ap (λ vs. None ∷ vs) (nothing round n)

-- in the next round all values are missing
pub all_missing : {T : Type 0} (round next count : ℕ) (slots : List (Slot T)) → round < next → AreUpTo round slots → slot_values next count slots ≡ replicate count None
all_missing round next zero slots k a = refl
all_missing round next (suc n) [] k a = ap (λ vs. None ∷ vs) (all_missing round next n [] k tt)
all_missing round next (suc n) (slot ∷ slots) k a =
    ap (λ v. v ∷ slot_values next n slots) (other_slot next slot (λ p. let l = a.0 in omega (arith, l, p, k))) ∙ ap (λ vs. None ∷ vs) (all_missing round next n slots k a.1)

pub later_round : {T : Type 0} (round next : ℕ) (slots : List (Slot T)) → round < next → AreUpTo round slots → AreUpTo next slots
later_round round next [] k a = tt
later_round round next (slot ∷ slots) k a = (let l = a.0 in omega (arith, l, k), later_round round next slots k a.1)

pub length_values : {T : Type 0} (round count : ℕ) (slots : List (Slot T)) → length (slot_values round count slots) ≡ count
length_values round zero slots = refl
length_values round (suc n) [] = ap suc (length_values round n [])
length_values round (suc n) (slot ∷ slots) = ap suc (length_values round n slots)

-- ---- one value

pub past_count : {T : Type 0} (round count number : ℕ) (slots : List (Slot T)) → count ≤ number → slice_index_or (slot_values round count slots) number None ≡ None
past_count round zero number slots l = refl
past_count round (suc n) zero slots l = absurd (omega arith)
past_count round (suc n) (suc k) [] l = past_count round n k [] (omega arith)
past_count round (suc n) (suc k) (slot ∷ slots) l = past_count round n k slots (omega arith)

pub past_slots : {T : Type 0} (round count number : ℕ) (slots : List (Slot T)) → length slots ≤ number → slice_index_or (slot_values round count slots) number None ≡ None
past_slots round zero number slots l = refl
past_slots round (suc n) zero [] l = refl
past_slots round (suc n) (suc k) [] l = past_slots round n k [] (omega arith)
past_slots round (suc n) zero (slot ∷ slots) l = absurd (omega arith)
past_slots round (suc n) (suc k) (slot ∷ slots) l = past_slots round n k slots (omega arith)

pub value_of_slot : {T : Type 0} (round count number : ℕ) (slots : List (Slot T)) (slot : Slot T) → number < count → number < length slots → slot ≡ slice_index_or slots number slot → slice_index_or (slot_values round count slots) number None ≡ slot_value round slot
value_of_slot round zero number slots slot l k e = absurd (omega arith)
value_of_slot round (suc n) number [] slot l k e = absurd (omega arith)
value_of_slot round (suc n) zero (x ∷ slots) slot l k e = ap (slot_value round) (sym e)
value_of_slot round (suc n) (suc i) (x ∷ slots) slot l k e = value_of_slot round n i slots slot (omega arith) (omega arith) e

-- ---- a slot that is set

pub set_values : {T : Type 0} (round count number : ℕ) (slots : List (Slot T)) (slot : Slot T) → number < length slots → slot_values round count (slice_set slots number slot) ≡ slice_set (slot_values round count slots) number (slot_value round slot)
set_values round zero number slots slot l = refl
set_values round (suc n) number [] slot l = absurd (omega arith)
set_values round (suc n) zero (x ∷ slots) slot l = refl
set_values round (suc n) (suc k) (x ∷ slots) slot l = ap (λ vs. slot_value round x ∷ vs) (set_values round n k slots slot (omega arith))

pub set_up_to : {T : Type 0} (round number : ℕ) (slots : List (Slot T)) (slot : Slot T) → AreUpTo round slots → slot.round ≤ round → AreUpTo round (slice_set slots number slot)
set_up_to round number [] slot a l = tt
set_up_to round zero (x ∷ slots) slot a l = (l, a.1)
set_up_to round (suc k) (x ∷ slots) slot a l = (a.0, set_up_to round k slots slot a.1 l)

pub set_now : {T : Type 0} (round count number : ℕ) (slots : List (Slot T)) (slot : Slot T) → number < length slots → slot.round ≡ round → slot_values round count (slice_set slots number slot) ≡ slice_set (slot_values round count slots) number (Some slot.value)
set_now round count number slots slot l e =
    set_values round count number slots slot l ∙ ap (slice_set (slot_values round count slots) number) (set_slot round slot e)

pub unset_now : {T : Type 0} (round count number : ℕ) (slots : List (Slot T)) (slot : Slot T) → number < length slots → 0 < round → slot.round ≡ 0 → slot_values round count (slice_set slots number slot) ≡ slice_set (slot_values round count slots) number None
unset_now round count number slots slot l r e =
    set_values round count number slots slot l ∙ ap (slice_set (slot_values round count slots) number) (blank_slot round slot r e)

pub unset_past : {T : Type 0} (round count number : ℕ) (slots : List (Slot T)) → length slots ≤ number → slice_set (slot_values round count slots) number None ≡ slot_values round count slots
unset_past round zero number slots l = refl
unset_past round (suc n) zero [] l = refl
unset_past round (suc n) (suc k) [] l = ap (λ vs. None ∷ vs) (unset_past round n k [] (omega arith))
unset_past round (suc n) zero (x ∷ slots) l = absurd (omega arith)
unset_past round (suc n) (suc k) (x ∷ slots) l = ap (λ vs. slot_value round x ∷ vs) (unset_past round n k slots (omega arith))

pub set_beyond : {A : Type 0} (xs : List A) (i : ℕ) (y : A) → length xs ≤ i → slice_set xs i y ≡ xs
set_beyond [] i y l = refl
set_beyond (x ∷ xs) zero y l = absurd (omega arith)
set_beyond (x ∷ xs) (suc i) y l = ap (λ zs. x ∷ zs) (set_beyond xs i y (omega arith))

-- ---- slots that are added

pub more_values : {T : Type 0} (round count : ℕ) (slots : List (Slot T)) (slot : Slot T) → 0 < round → slot.round ≡ 0 → slot_values round count (slots ++ (slot ∷ [])) ≡ slot_values round count slots
more_values round zero slots slot r e = refl
more_values round (suc n) [] slot r e = ap (λ v. v ∷ slot_values round n []) (blank_slot round slot r e)
more_values round (suc n) (x ∷ slots) slot r e = ap (λ vs. slot_value round x ∷ vs) (more_values round n slots slot r e)

pub more_up_to : {T : Type 0} (round : ℕ) (slots : List (Slot T)) (slot : Slot T) → AreUpTo round slots → slot.round ≡ 0 → AreUpTo round (slots ++ (slot ∷ []))
more_up_to round [] slot a e = (omega (arith, e), tt)
more_up_to round (x ∷ slots) slot a e = (a.0, more_up_to round slots slot a.1 e)

-- ---- variables

-- the variables before any is set
pub first_values : {A B : Type 0} (f : A → B) (n : ℕ) (x : A) → map f (replicate n x) ≡ replicate n (f x)
first_values f zero x = refl
first_values f (suc n) x = ap (λ ys. f x ∷ ys) (first_values f n x)

-- the value of one variable
pub value_there : {A B : Type 0} (f : A → B) (xs : List A) (i : ℕ) (x : A) → slice_index_or (map f xs) i (f x) ≡ f (slice_index_or xs i x)
value_there f [] i x = refl
value_there f (y ∷ ys) zero x = refl
value_there f (y ∷ ys) (suc i) x = value_there f ys i x

-- a variable that is set
pub set_there : {A B U E : Type 0} (r : Result U E) (f : A → B) (old new : List A) (i : ℕ) (x : A) → MatchResult r (λ _. new ≡ slice_set old i x) (λ _. new ≡ old) → IfOk r (λ _. map f new ≡ slice_set (map f old) i (f x))
set_there (Ok u) f old new i x h = ap (map f) h ∙ map-set f old i x
set_there (Err e) f old new i x h = tt

-- the same of a number, whose form in memory is read again
pub set_there_as : {T B U E : Type 0} (r : Result U E) (f : Option T → B) (old new : List (Option T)) (i : ℕ) (x y : T) → MatchResult r (λ _. new ≡ slice_set old i (Some y)) (λ _. new ≡ old) → y ≡ x → IfOk r (λ _. map f new ≡ slice_set (map f old) i (f (Some x)))
set_there_as (Ok u) f old new i x y h e = ap (map f) h ∙ map-set f old i (Some y) ∙ ap (λ z. slice_set (map f old) i (f (Some z))) e
set_there_as (Err err) f old new i x y h e = tt

-- one more of the values of a list
pub one_more : (xs values more : List ℤ) (n : ℕ) (y x : ℤ) → values ≡ take n xs → n < length xs → more ≡ values ++ (y ∷ []) → x ≡ slice_index_or xs n (pos 0) → y ≡ x → more ≡ take (n + 1) xs
one_more xs values more n y x so_far l e there same =
    e ∙ ap (λ z. values ++ (z ∷ [])) (same ∙ there) ∙ ap (λ vs. vs ++ (slice_index_or xs n (pos 0) ∷ [])) so_far ∙ sym (take_more xs n (pos 0) l)

pub step : {A : Type 0} (x y z : A) → x ≡ y → y ≡ z → x ≡ z
step x y z p q = p ∙ q
