-- Facts on the words of a file.
use Rattle.std.proofs.Common.{◌≡◌, ◌≤◌, ℕ, Bool, true, false, List, Some, None, length, nat_lt, refl, arith}
use Rattle.std.proofs.lemmas.Bool.Decides.{nat_tests}
use Rattle.std.proofs.lemmas.Str.{IsUtf8-from_is_utf8}
use Rattle.std.specs.Str.{is_utf8, IsUtf8}
use Rattle.sbl_input.specs.FileWords.{line_fault}
use Rattle.sbl_io.specs.declared.faults.ServeFault.TheVariants as fault

-- ---- one line

-- a line that is no UTF-8 does not pass the test
pub no_utf8 : (line : List ℕ) → ¬ (IsUtf8 line) → is_utf8 line ≡ false
no_utf8 line none = by (is_utf8 line) refl
  where
    by : (t : Bool) → is_utf8 line ≡ t → is_utf8 line ≡ false
    by true e = absurd (none (IsUtf8-from_is_utf8 line e))
    by false e = e

pub line_fits : (line : List ℕ) → length line ≤ 65536 → is_utf8 line ≡ true → line_fault line ≡ None
line_fits line fits text = let test : nat_lt 65536 (length line) ≡ false = grind (arith, nat_tests) in rw (test, text) refl

pub line_no_text : (line : List ℕ) → length line ≤ 65536 → is_utf8 line ≡ false → line_fault line ≡ Some fault.NotText
line_no_text line fits text = let test : nat_lt 65536 (length line) ≡ false = grind (arith, nat_tests) in rw (test, text) refl
