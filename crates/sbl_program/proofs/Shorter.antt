-- The longest string of a table that is shorter than the one at a place.
use Rattle.std.proofs.Common.{◌≡◌, ◌≤◌, ◌<◌, ◌++◌, ◌∷◌, ℕ, List, [], length, map, get_or, sym, ap, ◌∙◌, arith, Some, Option, Vec, Global}
use Rattle.std.proofs.lemmas.Option.{slice_get_past, slice_get-get_or}
use Rattle.sbl_ast.specs.declared.mode.Mode.{Mode}
use Rattle.sbl_semantics.specs.Fitting.{first, fitting, read_all, read_as}
use Rattle.sbl_program.specs.Best.{IsBest}
use Rattle.sbl_program.proofs.Fits.{best_after, none_after}
use Rattle.sbl_program.proofs.Next.{next_string, next_none}
use Rattle.sbl_program.proofs.SoFar.{read_length}

module _ (m : Mode) (items ds : List (Vec ℕ Global)) (i : ℕ) (x before rest : List ℕ) where
  abbrev Strings : List (List ℕ)
  Strings = read_all m (map (λ u. u.items) items)

  -- a place past the end never fits
  pub none_there : fitting Strings x ≡ before ++ (i ∷ rest) → ds ≡ items → length ds ≤ i → ⊥
  none_there cut d past =
      let n : length ds ≡ length items = ap length d in
      none_after Strings x before rest i cut (slice_get_past Strings i (omega (arith, next_none m items)))

  pub best_there : (v : Vec ℕ Global) (t : List ℕ) (n : ℕ) (r : Option ℕ) → fitting Strings x ≡ before ++ (i ∷ rest) → ds ≡ items → i < length ds → v ≡ get_or ds i v →
      t ≡ v.items → n ≡ length v.items → IsBest Strings (read_as m t) n r → r ≡ first rest
  best_there v t n r cut d l e same many best =
      let there = next_string m items ds v i d l e in
      let len : n ≡ length (read_as m t) = omega (arith, read_length m t, many, ap length same) in
      best_after Strings x before rest i (read_as m t) n r cut (slice_get-get_or Strings i [] there.0 ∙ ap Some (there.1 ∙ ap (read_as m) (sym same))) len best
