-- The state of the lexer that earlier tokens have set.
use denote.Enum.Bare.{sameb}
use Rattle.std.specs.Option.{option_map_or}
use Rattle.std.specs.Str.{chars}
use Rattle.std.specs.Prelude.{ℕ, if◌then◌else◌, List, Option, Some, None, option_and_then}
use Rattle.sbl_text.specs.declared.pieces.Expectation.{Expectation}
use Rattle.sbl_text.specs.declared.pieces.Expectation.TheVariants as wanted
use Rattle.sbl_text.specs.contracts.directives.Coding as codings
use Rattle.sbl_text.specs.declared.directives.Coding.{Coding}
use Rattle.sbl_text.specs.declared.directives.Coding.TheVariants as coding
use Rattle.sbl_token.specs.declared.words.Word.TheVariants as reserved
use Rattle.sbl_text.specs.Codes.{all_codes, numbers_in}
use Rattle.sbl_text.specs.Escapes.{InForce, nothing_set, with_inserts, with_macro}
use Rattle.sbl_token.specs.Lexemes.{Lexeme, word, literal, inserts, macro_name}
use Rattle.sbl_text.specs.Pieces.{Setting}

-- a macro whose value has not been read yet
pub record Defining : Type 0 where
  pub name : List ℕ
  pub coding : Coding

-- the insert characters and macros in force, what may come next, and the macro that is being defined
pub record Directives : Type 0 where
  pub escapes : InForce
  pub wanted : Expectation
  pub defining : Option Defining

abbrev pub setting_of : Directives → Setting
setting_of s = record { inserts = s.escapes.inserts; wanted = s.wanted }

abbrev pub start_under : InForce → Directives
start_under e = record { escapes = e; wanted = wanted.Token; defining = None }

abbrev pub start : Directives
start = start_under nothing_set

-- The value that a literal gives to a macro: its characters, or after `hex` or `decimal` those with its codes, of 1 to 6 or 1 to 7
-- digits each, if it has nothing but codes. Its length has no bound.
abbrev pub value_for_macro : Coding → List ℕ → Option (List ℕ)
value_for_macro coding.Plain v = Some v
value_for_macro coding.Hex v = all_codes 16 6 (numbers_in v)
value_for_macro coding.Decimal v = all_codes 10 7 (numbers_in v)

abbrev pub value_for : Option Defining → List ℕ → Option (List ℕ)
value_for d v = option_map_or (λ m. value_for_macro m.coding v) d (Some v)

-- after `hex` or `decimal`, which come before the literal
abbrev pub with_coding : Option Defining → Coding → Option Defining
with_coding d k = option_and_then (λ m. if sameb codings.the_type m.coding coding.Plain then Some (record { name = m.name; coding = k }) else None) d

abbrev pub defined_as : InForce → List ℕ → Option (List ℕ) → InForce
defined_as e n value = option_map_or (λ v. with_macro e n v) value e

-- the state after a token: some words require insert characters or a macro's name next; a literal may define a macro
abbrev pub after : Directives → Lexeme → Directives
after s (word reserved.StringEscapes) = record { escapes = s.escapes; wanted = wanted.Inserts; defining = None }
after s (word reserved.StringDef) = record { escapes = s.escapes; wanted = wanted.MacroName; defining = None }
after s (word reserved.Hex) = record { escapes = s.escapes; wanted = wanted.Token; defining = with_coding s.defining coding.Hex }
after s (word reserved.Decimal) = record { escapes = s.escapes; wanted = wanted.Token; defining = with_coding s.defining coding.Decimal }
after s (literal spelling v) = start_under (option_map_or (λ m. defined_as s.escapes m.name (value_for_macro m.coding v)) s.defining s.escapes)
after s (inserts a b) = start_under (with_inserts s.escapes a b)
after s (macro_name n) = record { escapes = s.escapes; wanted = wanted.Token; defining = Some (record { name = chars n; coding = coding.Plain }) }
after s _ = start_under s.escapes
