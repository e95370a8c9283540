-- Names for parts of Tokens.antt, and what functions inside the lexer promise of a token.
use Rattle.std.specs.Prelude.{◌≡◌, ◌⊎◌, ℕ, ◌+◌, ◌-◌, ◌*◌, Bool, true, List}
use Rattle.std.specs.Prelude.{encode_utf8_all, fold, Option, None, MatchOption, option_map, Result, MatchResult}
use Rattle.std.specs.Str.{chars}
use Rattle.std.specs.List.{cons_option}
use Rattle.std.specs.Option.{option_map_or}
use Rattle.sbl_token.specs.declared.words.Word.{Word}
use Rattle.sbl_text.specs.declared.pieces.Shape.{Shape}
use Rattle.sbl_text.specs.declared.fault.ScriptFault.{ScriptFault}
use Rattle.sbl_text.specs.declared.fault.ScriptFault.TheVariants as fault
use Rattle.sbl_token.specs.declared.token.Kind.{Kind}
use Rattle.sbl_token.specs.declared.token.Token.{Token}
use Rattle.sbl_token.specs.declared.token.Value.{Value}
use Rattle.sbl_text.specs.declared.pieces.Expectation.TheVariants as wanted
use Rattle.sbl_text.specs.Pieces.{is_gap}
use Rattle.sbl_text.specs.Directives.{Directives, start, value_for, after}
use Rattle.sbl_text.specs.Literals.{byte_length}
use Rattle.sbl_token.specs.Lexemes.{Lexeme, word, name, literal}
use Rattle.sbl_token.specs.Lexemes.{fits, lexeme_by}
use Rattle.sbl_text.specs.Classes.{star, begins_with}
use Rattle.sbl_text.specs.Tokens.{HasValue, IsLexeme, PlacedToken, Says, fault_at}

-- a literal after `stringdef` has no value for the macro
abbrev pub LacksValue : Directives → Lexeme → Type 0
LacksValue s (literal spelling v) = value_for s.defining v ≡ None
LacksValue s _ = ⊥

-- the number that the digits write, after digits that write n
abbrev pub digits_value : ℕ → List ℕ → ℕ
digits_value n text = fold (λ m c. m * 10 + (c - 48)) n text

abbrev pub word_or_name : Option Word → List ℕ → Lexeme
word_or_name o text = option_map_or word o (name text)

abbrev pub MaySay : Directives → Shape → List ℕ → Option Lexeme → Type 0
MaySay s k x o = MatchOption o (is_gap k ≡ true) (Says s k x)

abbrev pub after_piece : Directives → Option Lexeme → Directives
after_piece s o = option_map_or (after s) o s

abbrev pub and_more : Option Lexeme → List Lexeme → List Lexeme
and_more o ls = cons_option o ls

abbrev pub put_placed : ℕ → List ℕ → Option Lexeme → List PlacedToken → List PlacedToken
put_placed place x o ts =
    cons_option (option_map (λ l. record { lexeme = l; text = encode_utf8_all x; start = place; end = place + byte_length x }) o) ts

abbrev pub starts_star : List ℕ → Bool
starts_star text = begins_with star text

abbrev pub pair_fault : List ℕ → ℕ → ScriptFault
pair_fault text place = fault_at wanted.Inserts text place

abbrev pub token_fault : List ℕ → ℕ → ScriptFault
token_fault text place = fault_at wanted.Token text place

-- a token of this kind, with these bytes and this value, has the meaning of its text
abbrev pub HasMeaning : Directives → Shape → Kind → List ℕ → Value → Type 0
HasMeaning s k kind text value = IsLexeme s k (chars text) (lexeme_by kind text value) × (fits kind value ≡ true)

-- The state after a token at this byte offset. If there is a fault, the state is as before: `BadCode` if the token gives no value to
-- its macro, or an allocation failed.
abbrev pub AfterToken : Directives → Lexeme → ℕ → Result (Unit {0}) ScriptFault → Directives → Type 0
AfterToken old l place result new =
    MatchResult result (λ _. HasValue old l × (new ≡ after old l))
    (λ f. (new ≡ old) × ((f ≡ fault.OutOfMemory) ⊎ (LacksValue old l × (f ≡ fault.BadCode place))))
