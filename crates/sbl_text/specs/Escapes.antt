-- The insert characters and macros in force.
use Rattle.std.specs.Prelude.{ℕ, Bool, false, ◌==◌, if◌then◌else◌, List, [], ◌∷◌, ◌++◌, Option, Some, None}
use Rattle.std.specs.Option.{option_or, option_map_or}
use Rattle.std.specs.Str.{bytes_eq}
use Rattle.sbl_text.specs.declared.escapes.Inserts.{Inserts}

abbrev pub opens : Option Inserts → ℕ → Bool
opens p c = option_map_or (λ q. c == q.opening) p false

abbrev pub closes : Option Inserts → ℕ → Bool
closes p c = option_map_or (λ q. c == q.closing) p false

-- a macro
pub record Definition : Type 0 where
  pub name : List ℕ
  pub value : List ℕ

-- the macros are in the order of their definitions
pub record InForce : Type 0 where
  pub inserts : Option Inserts
  pub macros : List Definition

abbrev pub nothing_set : InForce
nothing_set = record { inserts = None; macros = [] }

abbrev pub with_inserts : InForce → ℕ → ℕ → InForce
with_inserts e a b = record { inserts = Some (record { opening = a; closing = b }); macros = e.macros }

abbrev pub with_macro : InForce → List ℕ → List ℕ → InForce
with_macro e name value = record { inserts = e.inserts; macros = e.macros ++ record { name = name; value = value } ∷ [] }

-- the value of the last definition of a macro
abbrev pub find : List Definition → List ℕ → Option (List ℕ)
find [] name = None
find (d ∷ ds) name = option_or (find ds name) (if bytes_eq d.name name then Some d.value else None)
