-- A line feed among the bytes that are held.
use Rattle.std.proofs.Common.{◌≡◌, ◌⊎◌, inl, inr, ◌∙◌, ◌+◌, ◌-◌, ◌<◌, ◌≤◌, ◌==◌, true, false, ℕ, List, [], ◌∷◌, Option, Some, Result, Ok, length, take, drop, get_or, get_or-take, get_or-drop, take_all, refl, sym, subst}
use Rattle.std.specs.Prelude.{slice_range}
use Rattle.std.proofs.lemmas.Bool.{cases_lt, ne_eqb}
use Rattle.sbl_io.specs.HeldInput.{has_feed}
use Rattle.sbl_io.specs.inside.LineSteps.{NoFeed}
use Rattle.sbl_io.specs.declared.faults.LineFault.{LineFault}

pub has_feed-none : (bytes : List ℕ) → NoFeed bytes → has_feed bytes ≡ false
has_feed-none [] h = refl
has_feed-none (b ∷ bytes) h =
    let other : (b == 10) ≡ false = ne_eqb b 10 h.0 in
    rw (other, has_feed-none bytes h.1) refl

-- the bytes before the first feed are not all, if there is one
pub feed-inside : (bytes : List ℕ) (n : ℕ) → NoFeed (take n bytes) → has_feed bytes ≡ true → n < length bytes
feed-inside bytes n free has = by (cases_lt n (length bytes))
  where
    by : (n < length bytes) ⊎ (length bytes ≤ n) → n < length bytes
    by (inl lt) = lt
    by (inr ge) = let bad : true ≡ false = sym has ∙ has_feed-none bytes (subst NoFeed (take_all n bytes ge) free) in cc bad

-- a byte of a range
pub byte-held : (xs : List ℕ) (a b n : ℕ) → n < b - a → get_or (slice_range xs a b) n 0 ≡ get_or xs (a + n) 0
byte-held xs a b n lt = get_or-take (b - a) (drop a xs) n 0 lt ∙ get_or-drop a xs n 0

-- the same byte was returned
pub some_is : {x y : ℕ} → ◌≡◌ {A = Result (Option ℕ) LineFault} (Ok (Some x)) (Ok (Some y)) → x ≡ y
some_is e = cc e
