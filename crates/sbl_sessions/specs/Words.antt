-- The words of a line.
use Rattle.std.specs.Prelude.{ℕ, Bool, List, ◌==◌}
use Rattle.std.specs.List.{after_first, before_first}

-- the command word is the text before the line's first space, and its argument is the text after it
abbrev pub command_word : List ℕ → List ℕ
command_word line = before_first (λ b. b == 32) line

abbrev pub argument : List ℕ → List ℕ
argument line = after_first (λ b. b == 32) line
