-- What the argument of `uses` asks about.
use Rattle.std.specs.Prelude.{ℕ, Bool, ◌==◌, List, [], Option, Some, None, if◌then◌else◌}
use Rattle.std.specs.List.{list_any}
use Rattle.std.specs.Option.{option_map}
use Rattle.std.specs.Str.{chars}
use Rattle.sbl_uses.specs.Uses.{Question, OfName, OfAmong, OfString}
use Rattle.sbl_sessions.specs.Numbers.{number_in}
use Rattle.sbl_sessions.specs.Words.{argument, command_word}

abbrev pub has_space : List ℕ → Bool
has_space text = list_any (λ b. b == 32) text

-- an among with a number, or the string of it that comes after the number and a space; none if the number is not decimal digits
abbrev pub among_question : List ℕ → List ℕ → Option Question
among_question name text =
    option_map (λ k. if has_space text then OfString name k (chars (argument text)) else OfAmong name k) (number_in (command_word text))

-- a name, which must not be empty, and what comes after it and a space
abbrev pub named_question : List ℕ → List ℕ → Option Question
named_question [] text = None
named_question name text = if has_space text then among_question name (argument text) else Some (OfName name)

-- what a text asks about: the name is the text before its first space
abbrev pub question_in : List ℕ → Option Question
question_in text = named_question (command_word text) text
