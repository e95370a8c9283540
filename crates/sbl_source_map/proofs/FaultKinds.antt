-- Faults at a token are the same if their kinds and items are.
use Rattle.std.proofs.Common.{◌≡◌, ◌∙◌, ◌&&◌, Bool, true, false, ℕ, nat_eq, nat_lt, if◌then◌else◌, refl, sym, ap, arith}
use Rattle.std.proofs.lemmas.Bool.Decides.{nat_tests}
use Rattle.sbl_text.specs.declared.fault.ScriptFault.{ScriptFault}
use Rattle.sbl_text.specs.declared.fault.ScriptFault.TheVariants as fault
use Rattle.sbl_source_map.specs.FaultKinds.{is_same, item_of, kind_of}
use Rattle.sbl_source_map.specs.FaultPlaces.{is_of_token}

-- the fault of this kind in this item
abbrev with_kind : ℕ → ℕ → ScriptFault
with_kind k i =
    if nat_eq k 9 then fault.DeclaredTwice i else (
    if nat_eq k 10 then fault.Undeclared i else (
    if nat_eq k 11 then fault.WrongKind i else (
    if nat_eq k 12 then fault.DefinedTwice i else (
    if nat_eq k 13 then fault.Undefined i else (
    if nat_eq k 14 then fault.WrongMode i else (
    if nat_eq k 15 then fault.Substring i else (
    if nat_eq k 16 then fault.Starter i else (
    if nat_eq k 17 then fault.RepeatedString i else (
    if nat_eq k 18 then fault.EmptyAmong i else (
    fault.NestedBackwards i))))))))))

made_again : (f : ScriptFault) → is_of_token f ≡ true → with_kind (kind_of f) (item_of f) ≡ f
made_again (fault.DeclaredTwice item) e = refl
made_again (fault.Undeclared item) e = refl
made_again (fault.WrongKind item) e = refl
made_again (fault.DefinedTwice item) e = refl
made_again (fault.Undefined item) e = refl
made_again (fault.WrongMode item) e = refl
made_again (fault.Substring item) e = refl
made_again (fault.Starter item) e = refl
made_again (fault.RepeatedString item) e = refl
made_again (fault.EmptyAmong item) e = refl
made_again (fault.NestedBackwards item) e = refl
made_again _ e = cc e

has_kind : (f : ScriptFault) → is_of_token f ≡ nat_lt 0 (kind_of f)
has_kind (fault.DeclaredTwice item) = refl
has_kind _ = refl

both : (a b : Bool) → (a && b) ≡ true → (a ≡ true) × (b ≡ true)
both true b e = (refl, e)
both false b e = cc e

one_number : (n m : ℕ) → nat_eq n m ≡ true → n ≡ m
one_number n m e = grind (arith, nat_tests, e)

self_number : (n : ℕ) → nat_eq n n ≡ true
self_number n = grind (arith, nat_tests)

pub one_fault : (f g : ScriptFault) → is_of_token f ≡ true → is_same f g ≡ true → f ≡ g
one_fault f g t e =
    let parts = both (nat_eq (kind_of f) (kind_of g)) (nat_eq (item_of f) (item_of g)) e in
    let kind : kind_of f ≡ kind_of g = one_number (kind_of f) (kind_of g) parts.0 in
    let item : item_of f ≡ item_of g = one_number (item_of f) (item_of g) parts.1 in
    sym (made_again f t) ∙ (λ i. with_kind (kind i) (item i)) ∙ made_again g (has_kind g ∙ ap (nat_lt 0) (sym kind) ∙ sym (has_kind f) ∙ t)

pub same_fault : (f g : ScriptFault) → f ≡ g → is_same f g ≡ true
same_fault f g e = ap (is_same f) (sym e) ∙ (λ i. self_number (kind_of f) i && self_number (item_of f) i)
