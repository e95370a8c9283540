-- Names for parts of Literals.antt, and what functions inside the lexer promise of a literal.
use Rattle.std.specs.Prelude.{◌≡◌, ℕ, ◌+◌, true, false, not, List, []}
use Rattle.std.specs.Prelude.{◌∷◌, ◌++◌, flat_map, Option, ok_or, Result, Ok, Err}
use Rattle.std.specs.List.{list_all}
use Rattle.std.specs.Option.{option_map_or}
use Rattle.std.specs.Result.{result_map_both}
use Rattle.sbl_text.specs.declared.escapes.Inserts.{Inserts}
use Rattle.sbl_text.specs.declared.fault.ScriptFault.{ScriptFault}
use Rattle.sbl_text.specs.declared.fault.ScriptFault.TheVariants as fault
use Rattle.sbl_text.specs.Escapes.{InForce, closes}
use Rattle.sbl_text.specs.Literals.{Part, insertion_value, is_closed}

-- a fault without its byte offset
abbrev pub Refusal : Type 0
Refusal = ℕ → ScriptFault

abbrev pub code_or_fault : Option ℕ → Result ℕ Refusal
code_or_fault o = ok_or o fault.BadCode

abbrev pub alone : Result ℕ Refusal → Result (List ℕ) Refusal
alone r = result_map_both (λ c. c ∷ []) (λ f. f) r

abbrev pub value_or_character : Option (List ℕ) → Result ℕ Refusal → Result (List ℕ) Refusal
value_or_character o r = option_map_or Ok o (alone r)

abbrev pub values : List Part → List ℕ
values ps = flat_map (λ p. p.value) ps

-- the value of an insertion was added
abbrev pub AddsValue : InForce → List ℕ → List ℕ → List ℕ → Type 0
AddsValue e name old new = (w : List ℕ) × (insertion_value e name ≡ Ok w) × (new ≡ old ++ w)

-- the insertion has no value, and this is its fault at this byte offset
abbrev pub Refuses : InForce → List ℕ → ℕ → ScriptFault → Type 0
Refuses e name place f = (g : Refusal) × (insertion_value e name ≡ Err g) × (f ≡ g place)

-- The text from inside an insertion on is its name, a closing character and the rest. Each insertion has its end in it exactly if
-- each of the rest has one.
abbrev pub IsSplit : Option Inserts → List ℕ → List ℕ → ℕ → List ℕ → Type 0
IsSplit e text name b rest =
    (text ≡ name ++ b ∷ rest) × (closes e b ≡ true) × (list_all (λ c. not (closes e c)) name ≡ true)
    × (is_closed e true text ≡ is_closed e false rest)
