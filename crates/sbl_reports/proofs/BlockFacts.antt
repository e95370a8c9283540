-- Lines of a block are taken, up to its point.
use Rattle.std.proofs.Common.{◌≡◌, ◌⊎◌, inl, inr, ◌≢◌, ◌∙◌, ◌++◌, ◌≤◌, ℕ, List, [], ◌∷◌, Option, Some, None, refl, sym, length}
use Rattle.sbl_reports.specs.Block.{Breaks, NoPoint, point}
use Rattle.sbl_io.specs.Faults.{serve_fault_of}
use Rattle.sbl_io.specs.HeldInput.{AllFit, BeginsLong, BreaksOff, Took}
use Rattle.sbl_io.specs.declared.faults.LineFault.{LineFault}
use Rattle.sbl_io.specs.declared.faults.LineFault.TheVariants.{Read, TooLong}

pub no_point-push : (lines : List (List ℕ)) (line : List ℕ) → NoPoint lines → line ≢ point → NoPoint (lines ++ line ∷ [])
no_point-push [] line h other = (other, tt)
no_point-push (l ∷ lines) line h other = (h.0, no_point-push lines line h.1 other)

pub all_fit-push : (lines : List (List ℕ)) (line : List ℕ) → AllFit lines → length line ≤ 65536 → AllFit (lines ++ line ∷ [])
all_fit-push [] line h fits = (fits, tt)
all_fit-push (l ∷ lines) line h fits = (h.0, all_fit-push lines line h.1 fits)

pub all_fit-append : (lines more : List (List ℕ)) → AllFit lines → AllFit more → AllFit (lines ++ more)
all_fit-append [] more h g = g
all_fit-append (l ∷ lines) more h g = (h.0, all_fit-append lines more h.1 g)

-- where the lines have no further one for a fault of theirs
pub broken_block : (Good : List (List ℕ) → Type 0) (a b c : Option (List ℕ)) (h : Option LineFault) (taken : List (List ℕ)) (part : List ℕ) (fault : LineFault)
    → Good taken → Took a b taken → h ≡ None → (fault ≡ TooLong → BeginsLong b ⊎ (h ≡ Some fault)) → (fault ≡ Read → h ≡ None → BreaksOff b c part)
    → Breaks Good a c (serve_fault_of fault)
broken_block Good a b c h taken part Read good took none long cut = (taken, b, part, good, took, cut refl none)
broken_block Good a b c h taken part TooLong good took none long cut = by (long refl)
  where
    by : BeginsLong b ⊎ (h ≡ Some TooLong) → Breaks Good a c (serve_fault_of TooLong)
    by (inl is) = (taken, b, good, took, is)
    by (inr is) = let e : Some TooLong ≡ None = sym is ∙ none in cc e
