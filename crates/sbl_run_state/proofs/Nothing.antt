-- No string fits where there is none.
use Rattle.std.proofs.Common.{◌≡◌, ℕ, zero, suc, List, [], length, refl}
use Rattle.sbl_semantics.specs.Fitting.{below, fitting}

none_below : (x : List ℕ) (b : ℕ) → below [] x b ≡ []
none_below x zero = refl
none_below x (suc l) = none_below x l

pub none_fits : (x : List ℕ) → fitting [] x ≡ []
unfolding fitting
none_fits x = none_below x (suc (length x))
