-- Names for parts of Directives.antt, and what a literal sets.
use Rattle.std.specs.Prelude.{◌≡◌, ◌⊎◌, ℕ, List, Option, Some, None, Result, MatchResult}
use Rattle.std.specs.Option.{option_map_or}
use Rattle.sbl_token.specs.declared.words.Word.{Word}
use Rattle.sbl_text.specs.declared.fault.ScriptFault.{ScriptFault}
use Rattle.sbl_text.specs.declared.fault.ScriptFault.TheVariants as fault
use Rattle.sbl_text.specs.Escapes.{InForce}
use Rattle.sbl_token.specs.Lexemes.{word}
use Rattle.sbl_text.specs.Directives.{Defining, Directives, after, defined_as, start_under, value_for, value_for_macro}

abbrev pub after_word : Directives → Word → Directives
after_word s w = after s (word w)

-- what is in force after a literal with these characters
abbrev pub defined_by : InForce → Option Defining → List ℕ → InForce
defined_by e d v = option_map_or (λ m. defined_as e m.name (value_for_macro m.coding v)) d e

-- the state after most tokens
abbrev pub no_directive : InForce → Directives
no_directive e = start_under e

-- The state after a literal with these characters at this byte offset. If there is a fault, the state is as before: `BadCode` if
-- the characters give no value to the macro, or an allocation failed.
abbrev pub AfterLiteral : Directives → List ℕ → ℕ → Result (Unit {0}) ScriptFault → Directives → Type 0
AfterLiteral old v place result new =
    MatchResult result
    (λ _. (w : List ℕ) × (value_for old.defining v ≡ Some w) × (new ≡ no_directive (defined_by old.escapes old.defining v)))
    (λ f. (new ≡ old) × ((f ≡ fault.OutOfMemory) ⊎ ((value_for old.defining v ≡ None) × (f ≡ fault.BadCode place))))
