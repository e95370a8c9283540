-- The lists of a check.
use Rattle.std.proofs.Common.{◌≡◌, ◌≤◌, ◌++◌, ℕ, List, [], ◌∷◌, Option, Err, ap, length, refl, ◌∙◌}
use Rattle.std.proofs.lemmas.Bool.{le-leb}
use Rattle.std.specs.Fmt.Cut.{cut_to}
use Rattle.std.proofs.lemmas.List.{flat_map_more}
use Rattle.sbl_io.specs.HeldInput.{AllFit}
use Rattle.sbl_io.specs.Faults.{serve_fault_of}
use Rattle.sbl_io.specs.declared.faults.LineFault.{LineFault}
use Rattle.sbl_io.specs.declared.faults.LineFault.TheVariants.{Read, TooLong}
use Rattle.sbl_reports.specs.Block.{BlockLines, Breaks}
use Rattle.snowbench.specs.WholeCheck.{ReadsExpected, ReadsWords, list_text}

-- one more line
pub list-push : (text line : List ℕ) (lines : List (List ℕ)) → text ≡ list_text lines → text ++ (line ++ 13 ∷ 10 ∷ []) ≡ list_text (lines ++ line ∷ [])
list-push text line lines is =
    ap (λ (t : List ℕ). t ++ (line ++ 13 ∷ 10 ∷ [])) is ∙ flat_map_more {X = List ℕ} {A = ℕ} (λ line. line ++ 13 ∷ 10 ∷ []) [] lines line

pub words_broken : (a b : Option (List ℕ)) (f : LineFault) → Breaks BlockLines a b (serve_fault_of f) → ReadsWords a b (Err (serve_fault_of f))
words_broken a b Read breaks = breaks
words_broken a b TooLong breaks = breaks

pub expected_broken : (a b : Option (List ℕ)) (f : LineFault) → Breaks AllFit a b (serve_fault_of f) → ReadsExpected a b (Err (serve_fault_of f))
expected_broken a b Read breaks = breaks
expected_broken a b TooLong breaks = breaks

-- a text that fits is not cut
pub cut_to_fits : (room : ℕ) (text : List ℕ) → length text ≤ room → cut_to room text ≡ text
unfolding cut_to
cut_to_fits room text fits = rw (le-leb (length text) room fits) refl
