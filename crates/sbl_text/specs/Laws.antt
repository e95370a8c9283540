-- Laws of the lexer.
use Rattle.std.specs.Prelude.{true, ◌≡◌, ◌⊎◌, ℕ, List, [], ◌∷◌, Result, Ok, Err, Option, Some, None}
use Rattle.sbl_text.specs.declared.fault.ScriptFault.{ScriptFault}
use Rattle.sbl_text.specs.declared.fault.ScriptFault.TheVariants as fault
use Rattle.sbl_token.specs.declared.signs.Sign.{Sign}
use Rattle.sbl_token.specs.declared.token.Token.{Token}
use Rattle.sbl_token.specs.declared.words.Word.{Word}
use Rattle.sbl_token.specs.Signs.{sign_text}
use Rattle.sbl_token.specs.Words.{word_of, word_text}
use Rattle.sbl_token.specs.Lexemes.{Lexeme, lexeme_of}
use Rattle.sbl_text.specs.Directives.{Directives}
use Rattle.sbl_text.specs.Tokens.{PlacedToken, AreTokensFrom, ArePlacedFrom, IsFirstFaultFrom, Reading, IsNext, MayEnd}
use Rattle.sbl_text.specs.Escapes.{InForce}
use Rattle.sbl_text.specs.Literals.{IsLiteral}
use Rattle.sbl_text.specs.SpacedTokens.{after_all, AreSaid, SpacedToken, lexemes_of, are_white, spaced_text}
use Rattle.std.specs.Str.{chars, IsUtf8}

-- a text has at most one list of tokens
abbrev pub TokensAreOne : Type 0
TokensAreOne = (s : Directives) (text : List ℕ) (ls ms : List Lexeme) → AreTokensFrom s text ls → AreTokensFrom s text ms → ls ≡ ms

-- a text has at most one list of tokens with positions
abbrev pub PlacesAreOne : Type 0
PlacesAreOne = (s : Directives) (text : List ℕ) (ts us : List PlacedToken) → ArePlacedFrom s text ts → ArePlacedFrom s text us → ts ≡ us

-- a text has at most one first fault
abbrev pub FirstFaultIsOne : Type 0
FirstFaultIsOne = (s : Directives) (text : List ℕ) (f g : ScriptFault) → IsFirstFaultFrom s text f → IsFirstFaultFrom s text g → f ≡ g

-- a text with a first fault has no list of tokens
abbrev pub TokensOrFault : Type 0
TokensOrFault = (s : Directives) (text : List ℕ) (ls : List Lexeme) (f : ScriptFault) → AreTokensFrom s text ls → IsFirstFaultFrom s text f → ⊥

-- after a fault the next call returns the same fault, unless the fault was `OutOfMemory`
abbrev pub SameFaultAgain : Type 0
SameFaultAgain =
    (r s t : Reading) (f : ScriptFault) (next : Result (Option Token) ScriptFault) →
    IsNext r s (Err f) → IsNext s t next → (f ≡ fault.OutOfMemory) ⊎ ((next ≡ Err f) × (t ≡ s))

-- a word is read from its own text
abbrev pub WordsAreRead : Type 0
WordsAreRead = (w : Word) → word_of (word_text w) ≡ Some w

-- no two signs have the same text
abbrev pub SignsDiffer : Type 0
SignsDiffer = (s t : Sign) → sign_text s ≡ sign_text t → s ≡ t

-- lexemes that can be written, each followed by a white space character, are the tokens of that text
abbrev pub SpacedAreRead : Type 0
SpacedAreRead =
    (s : Directives) (ps : List SpacedToken) →
    are_white ps ≡ true → AreSaid s (lexemes_of ps) → MayEnd (after_all s (lexemes_of ps)) → AreTokensFrom s (chars (spaced_text ps)) (lexemes_of ps)

-- the tokens of a text can be written
abbrev pub TokensAreSaid : Type 0
TokensAreSaid =
    (s : Directives) (text : List ℕ) (ls : List Lexeme) → IsUtf8 text → AreTokensFrom s (chars text) ls → AreSaid s ls × MayEnd (after_all s ls)

-- the spelling of a literal has at most one result: a value or a fault
abbrev pub LiteralIsOne : Type 0
LiteralIsOne = (e : InForce) (spelling : List ℕ) (a b : Result (List ℕ) ScriptFault) → IsLiteral e spelling a → IsLiteral e spelling b → a ≡ b

-- the next token, followed by the tokens of the text after it, are the tokens of the text
abbrev pub NextIsFirst : Type 0
NextIsFirst =
    (r t : Reading) (token : Token) (ls : List Lexeme) →
    IsNext r t (Ok (Some token)) → AreTokensFrom t.state t.rest ls → AreTokensFrom r.state r.rest (lexeme_of token ∷ ls)

-- if there is no next token, the text has no tokens
abbrev pub NoneIsLast : Type 0
NoneIsLast = (r t : Reading) → IsNext r t (Ok None) → AreTokensFrom r.state r.rest []
