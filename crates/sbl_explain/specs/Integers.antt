-- The integer variables at the end of a run.
use Rattle.std.specs.Prelude.{ℕ, ℤ, suc, List, [], ◌∷◌, codes, decimal, slice_index_or}
use Rattle.std.specs.Fmt.{signed_decimal}
use Rattle.sbl_rows.specs.Setting.{Setting}
use Rattle.sbl_semantics.specs.Outcome.{integers_of, used_of}
use Rattle.sbl_semantics.specs.Items.{known_in}
use Rattle.sbl_io.specs.Records.{records_text}
use Rattle.sbl_ast.specs.Order.{in_order}
use Rattle.sbl_ast.specs.declared.tree.DeclarationKind.TheVariants as kinds

-- the names of the integer variables of a script, in the order of their declarations
abbrev pub integer_names : Setting → List (List ℕ)
integer_names s = known_in (in_order s.script.items) kinds.Integers

-- the row of the integer variable with this number
unfoldable pub value_row : List (List ℕ) → ℕ → ℤ → List (List ℕ)
value_row names i value = codes "integer" ∷ slice_index_or names i [] ∷ signed_decimal value ∷ []

-- a row for each value; the first one has number i
abbrev pub value_rows : List (List ℕ) → ℕ → List ℤ → List (List (List ℕ))
value_rows names i [] = []
value_rows names i (v ∷ vs) = value_row names i v ∷ value_rows names (suc i) vs

abbrev pub steps_row : ℕ → List (List ℕ)
steps_row used = codes "steps" ∷ decimal used ∷ []

-- A row with the number of steps that a fresh run of a word uses, and one for each integer variable with its value at the end
-- of the run.
abbrev pub integers_text : Setting → List ℕ → List ℕ
integers_text s word = records_text (steps_row (used_of s.script word s.limit) ∷ value_rows (integer_names s) 0 (integers_of s.script word s.limit))
