-- A token without its position.
use Rattle.std.specs.Prelude.{◌≡◌, ℕ, Bool, true, false, ◌&&◌, nat_eq, List, []}
use Rattle.std.specs.Str.{bytes_eq}
use denote.Enum.Bare.{sameb}
use Rattle.sbl_token.specs.contracts.signs.Sign as written
use Rattle.sbl_token.specs.contracts.words.Word as reserved
use Rattle.sbl_token.specs.declared.signs.Sign.{Sign}
use Rattle.sbl_token.specs.declared.words.Word.{Word}
use Rattle.sbl_token.specs.declared.token.Kind.{Kind}
use Rattle.sbl_token.specs.declared.token.Kind.TheVariants as kind
use Rattle.sbl_token.specs.declared.token.Value.{Value}
use Rattle.sbl_token.specs.declared.token.Value.TheVariants as value
use Rattle.sbl_token.specs.declared.token.Token.{Token}

-- a name and a macro name have the bytes of their text; a number has its value; a literal has the bytes of its spelling
-- and its characters; insert characters have the two characters
pub data Lexeme : Type 0 where
  word : Word → Lexeme
  sign : Sign → Lexeme
  name macro_name : List ℕ → Lexeme
  number : ℕ → Lexeme
  literal : List ℕ → List ℕ → Lexeme
  inserts : ℕ → ℕ → Lexeme

-- whether two tokens are the same but for their positions
abbrev pub same_lexeme : Lexeme → Lexeme → Bool
same_lexeme (word v) (word w) = sameb reserved.the_type v w
same_lexeme (sign r) (sign s) = sameb written.the_type r s
same_lexeme (name m) (name n) = bytes_eq m n
same_lexeme (number m) (number n) = nat_eq m n
same_lexeme (literal p v) (literal q w) = bytes_eq p q && bytes_eq v w
same_lexeme (inserts a b) (inserts c d) = nat_eq a c && nat_eq b d
same_lexeme (macro_name m) (macro_name n) = bytes_eq m n
same_lexeme x y = false

abbrev pub number_in : Value → ℕ
number_in (value.Number n) = n
number_in _ = 0

abbrev pub spelling_in : Value → List ℕ
spelling_in (value.Literal spelling characters) = spelling.now
spelling_in _ = []

abbrev pub characters_in : Value → List ℕ
characters_in (value.Literal spelling characters) = characters.items
characters_in _ = []

abbrev pub inserts_in : Value → ℕ × ℕ
inserts_in (value.Inserts a b) = (a, b)
inserts_in _ = (0, 0)

abbrev pub lexeme_by : Kind → List ℕ → Value → Lexeme
lexeme_by (kind.Word w) text v = word w
lexeme_by (kind.Sign s) text v = sign s
lexeme_by kind.Name text v = name text
lexeme_by kind.Number text v = number (number_in v)
lexeme_by kind.Literal text v = literal (spelling_in v) (characters_in v)
lexeme_by kind.Inserts text v = inserts (inserts_in v).0 (inserts_in v).1
lexeme_by kind.MacroName text v = macro_name text

-- numbers, literals and insert characters have a value of their own kind; every other kind has no value
abbrev pub fits : Kind → Value → Bool
fits kind.Number (value.Number n) = true
fits kind.Number v = false
fits kind.Literal (value.Literal spelling characters) = true
fits kind.Literal v = false
fits kind.Inserts (value.Inserts a b) = true
fits kind.Inserts v = false
fits k value.None = true
fits k v = false

-- the value of the token fits its kind
abbrev pub SaysFitting : Token → Type 0
SaysFitting t = fits t.kind t.value ≡ true

abbrev pub lexeme_of : Token → Lexeme
lexeme_of t = lexeme_by t.kind t.text.now t.value
