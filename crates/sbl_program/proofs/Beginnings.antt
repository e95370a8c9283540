-- What strings begin with.
use Rattle.std.proofs.Common.{◌≡◌, ℕ, Bool, true, false, List, [], ◌∷◌, None, sym, ap, ◌∙◌, get_or}
use Rattle.std.specs.Prelude.{nat_eq, ◌||◌}
use Rattle.std.specs.List.{starts_with}
use Rattle.sbl_program.specs.Beginnings.{AreBeginnings, may_begin}
use Rattle.sbl_program.specs.Best.{IsBest}
use Rattle.sbl_program.specs.Linked.{AreRows}
use Rattle.sbl_program.proofs.Fits.{prefix_is}

everywhere_begins : (class : ℕ → Bool) (everywhere : Bool) (x : List ℕ) → everywhere ≡ true → may_begin class everywhere x ≡ true
everywhere_begins class everywhere [] e = e
everywhere_begins class everywhere (c ∷ cs) e = ap (λ b. b || class c) e

-- a string that is a prefix of what is read begins it
pub prefix_may_begin : (class : ℕ → Bool) (everywhere : Bool) (x v : List ℕ) → starts_with nat_eq x v ≡ true → may_begin class everywhere v ≡ true → may_begin class everywhere x ≡ true
prefix_may_begin class everywhere x [] h e = everywhere_begins class everywhere x e
prefix_may_begin class everywhere [] (c ∷ cs) h e = absurd (let no : false ≡ true = h in let not : ⊥ = cc in not)
prefix_may_begin class everywhere (d ∷ ds) (c ∷ cs) h e =
    let same : c ≡ d = ap (λ (l : List ℕ). get_or l 0 0) (prefix_is (d ∷ ds) (c ∷ cs) h) in
    sym (ap (λ x. everywhere || class x) same) ∙ e

apart : (b : Bool) → b ≡ true → b ≡ false → ⊥
apart b p q = let e : true ≡ false = sym p ∙ q in cc

-- where none begins what is read, none fits
pub none_fits : (class : ℕ → Bool) (everywhere : Bool) (x : List ℕ) (b : ℕ) (strings texts : List (List ℕ)) (numbers : List ℕ) → AreRows strings texts numbers → AreBeginnings class everywhere texts → may_begin class everywhere x ≡ false → IsBest strings x b None
none_fits class everywhere x b strings texts numbers rows are none j v at prefix =
    let k = rows.all j v at in
    absurd (apart (may_begin class everywhere x) (prefix_may_begin class everywhere x v prefix (are k.0 v k.1)) none)
