-- The fault of tokens, with its byte offset.
use Rattle.std.specs.Prelude.{◌≡◌, ℕ, ◌-◌, List, [], ◌∷◌, drop, length, map}
use Rattle.sbl_token.specs.declared.token.Token.{Token}
use Rattle.sbl_token.specs.Lexemes.{lexeme_of}
use Rattle.sbl_text.specs.declared.fault.ScriptFault.{ScriptFault}
use Rattle.sbl_text.specs.declared.fault.ScriptFault.TheVariants as script
use Rattle.sbl_parser.specs.declared.error.ReadError.{ReadError}
use Rattle.sbl_parser.specs.declared.error.ReadError.TheVariants as errors
use Rattle.sbl_ast.specs.Texts.{Text}
use Rattle.sbl_parser.specs.Reading.{IsSyntaxAt, IsTooDeepAt, IsOutOfProfileAt}

-- the byte offset of the first of these tokens, or `end` if there are none
abbrev pub place_of : List Token → ℕ → ℕ
place_of [] end = end
place_of (t ∷ ts) end = t.start

abbrev pub place_at : List Token → ℕ → ℕ → ℕ
place_at ts at end = place_of (drop at ts) end

-- the tokens have this fault, at this byte offset
abbrev pub IsFaultOf : Text → List Token → ℕ → ScriptFault → Type 0
IsFaultOf t ts end (script.Syntax place) = (at : ℕ) × (place ≡ place_at ts at end) × IsSyntaxAt t (map lexeme_of ts) (map lexeme_of (drop at ts))
IsFaultOf t ts end (script.TooDeep place) = (at : ℕ) × (place ≡ place_at ts at end) × IsTooDeepAt t (map lexeme_of ts) (map lexeme_of (drop at ts))
IsFaultOf t ts end (script.OutOfProfile place) =
    (at : ℕ) × (place ≡ place_at ts at end) × IsOutOfProfileAt t (map lexeme_of ts) (map lexeme_of (drop at ts))
IsFaultOf t ts end _ = ⊥

-- the fault of a script for an error of the parser, with its byte offset: the `$` is two tokens before what is no operator
abbrev pub fault_at_offset : List Token → ℕ → ReadError → ScriptFault
fault_at_offset ts end errors.Memory = script.OutOfMemory
fault_at_offset ts end (errors.Syntax count) = script.Syntax (place_at ts (length ts - count) end)
fault_at_offset ts end (errors.TooDeep count) = script.TooDeep (place_at ts (length ts - count) end)
fault_at_offset ts end (errors.OutOfProfile count) = script.OutOfProfile (place_at ts (length ts - count - 2) end)
