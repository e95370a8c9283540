-- The terms of a sum and the factors of a product, one after another. `to` says what such a list gives, from a value on.
use Rattle.std.proofs.Common.{◌≡◌, ℕ, ℤ, ◌+◌, ◌<◌, List, ◌∷◌, length, map, drop, get_or, Err, sym, ap, ◌∙◌}
use Rattle.sbl_ast.specs.declared.mode.Mode.{Mode}
use Rattle.sbl_semantics.specs.declared.fault.RunFault.{RunFault}
use Rattle.sbl_semantics.specs.Numbers.{Value, with_both}
use Rattle.sbl_semantics.specs.State.{State}
use Rattle.sbl_program.specs.Arithmetic.{value}
use Rattle.sbl_program.specs.Program.{Arithmetic}
use Rattle.sbl_program.proofs.ChainRuns.{part_is}

-- ---- the first one

pub first_refused : (to : Value → Value) (whole first called r : Value) (fault : RunFault) → to (Err fault) ≡ Err fault → whole ≡ to first → first ≡ called → called ≡ Err fault → r ≡ Err fault → r ≡ whole
first_refused to whole first called r fault stop is a b refused = refused ∙ sym (is ∙ ap to (a ∙ b) ∙ stop)

pub first_taken : {X : Type 0} (to : List X → Value → Value) (whole first called start r : Value) (xs ys : List X) → xs ≡ ys → whole ≡ to ys first → first ≡ called → called ≡ start → r ≡ to xs start → r ≡ whole
first_taken to whole first called start r xs ys same is a b taken = taken ∙ ap (λ zs. to zs start) same ∙ sym (is ∙ ap (to ys) (a ∙ b))

-- ---- the turn of the loop over the others

module _ {X O : Type 0} (view : X → O × Arithmetic) (op : O → ℤ → ℤ → Value) (to : List (O × Arithmetic) → Value → Mode → State → Value) (m : Mode) (s : State) where
  -- what one of them gives, and those after it
  abbrev Steps : Type 0
  Steps = (o : O × Arithmetic) (os : List (O × Arithmetic)) (v : Value) → to (o ∷ os) v m s ≡ to os (with_both v (value o.1 m s) (op o.0)) m s

  one_further : Steps → (xs : List X) (i : ℕ) (x : X) (total start w : Value) → to (map view (drop i xs)) total m s ≡ to (map view xs) start m s → i < length xs → x ≡ get_or xs i x
      → w ≡ with_both total (value (view x).1 m s) (op (view x).0) → to (map view xs) start m s ≡ to (map view (drop (i + 1) xs)) w m s
  one_further steps xs i x total start w so lt is made =
      let rest = map view (drop (i + 1) xs) in
      sym so ∙ ap (λ ys. to ys total m s) (part_is view xs i x lt is) ∙ steps (view x) rest total ∙ ap (λ v. to rest v m s) (sym made)

  pub turn_refused : Steps → (xs : List X) (i : ℕ) (x : X) (total start w r : Value) (fault : RunFault) → ((os : List (O × Arithmetic)) → to os (Err fault) m s ≡ Err fault)
      → to (map view (drop i xs)) total m s ≡ to (map view xs) start m s → i < length xs → x ≡ get_or xs i x → w ≡ with_both total (value (view x).1 m s) (op (view x).0)
      → w ≡ Err fault → r ≡ Err fault → r ≡ to (map view xs) start m s
  turn_refused steps xs i x total start w r fault stop so lt is made e refused =
      let rest = map view (drop (i + 1) xs) in
      refused ∙ sym (one_further steps xs i x total start w so lt is made ∙ ap (λ v. to rest v m s) e ∙ stop rest)

  pub turn_taken : Steps → (xs : List X) (i : ℕ) (x : X) (total start w new : Value)
      → to (map view (drop i xs)) total m s ≡ to (map view xs) start m s → i < length xs → x ≡ get_or xs i x → w ≡ with_both total (value (view x).1 m s) (op (view x).0)
      → w ≡ new → to (map view (drop (i + 1) xs)) new m s ≡ to (map view xs) start m s
  turn_taken steps xs i x total start w new so lt is made e = sym (one_further steps xs i x total start w so lt is made ∙ ap (λ v. to (map view (drop (i + 1) xs)) v m s) e)
