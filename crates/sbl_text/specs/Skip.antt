-- Skips the characters of a class. Internal: only functions inside the crate use these definitions in their contracts.
use Rattle.std.specs.Prelude.{ℕ, Bool, not, ◌==◌, if◌then◌else◌, List, [], ◌∷◌}
use Rattle.std.specs.Char.{is_ascii_alphabetic, is_ascii_digit}
use Rattle.sbl_text.specs.declared.classes.CharKind.{CharKind}
use Rattle.sbl_text.specs.declared.classes.CharKind.TheVariants as class
use Rattle.sbl_text.specs.Classes.{is_white, is_word, line_feed}

abbrev pub is_in : CharKind → ℕ → Bool
is_in class.White c = is_white c
is_in class.Letter c = is_ascii_alphabetic c
is_in class.Word c = is_word c
is_in class.Digit c = is_ascii_digit c
is_in class.Line c = not (c == line_feed)
is_in class.Black c = not (is_white c)

-- the text after its leading characters that satisfy p
abbrev pub past : (ℕ → Bool) → List ℕ → List ℕ
past p [] = []
past p (c ∷ cs) = if p c then past p cs else c ∷ cs
