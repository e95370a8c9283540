-- How the code looks a word up.
use Rattle.std.specs.Prelude.{ℕ, if◌then◌else◌, List, [], ◌∷◌, Option, Some, None}
use Rattle.std.specs.Str.{bytes_eq}
use Rattle.sbl_token.specs.declared.words.Word.{Word}
use Rattle.sbl_token.specs.Words.{word_text}

-- the first of these words that has this text
abbrev pub found_in : List Word → List ℕ → Option Word
found_in [] text = None
found_in (w ∷ ws) text = if bytes_eq (word_text w) text then Some w else found_in ws text
