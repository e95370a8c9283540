-- Which token may come next: a stack of the symbols that are still expected.
use Rattle.std.specs.Prelude.{ℕ, ◌+◌, Bool, true, false, ◌&&◌, List, [], ◌∷◌, Option, Some, None, nat_lt, if◌then◌else◌}
use Rattle.sbl_ast.specs.Places.{max_depth}
use Rattle.sbl_ast.specs.declared.tree.Additive.TheVariants as additives
use Rattle.sbl_ast.specs.Terminal.{Terminal}
use Rattle.sbl_ast.specs.Terminal as t

-- an expected symbol, with the nesting depth of what contains it
pub data Symbol : Type 0 where
  opening closing name argument command others rows for_ excluded subject operator comparison : ℕ → Symbol
  factor scales sums starter groups entries condition among : ℕ → Symbol
  inserts macro base literal definition terms names plain plains item items : Symbol

abbrev pub Stack : Type 0
Stack = List Symbol

-- the result of a token: it is accepted at its depth, and then these symbols are expected; it cannot come; or an
-- operator is missing
pub data Step : Type 0 where
  goes : ℕ → Stack → Step
  stuck : Step
  unassigned : Step

-- the symbols of an expression, pushed on the stack k
abbrev pub expression : ℕ → Stack → Stack
expression d k = factor d ∷ scales d ∷ sums d ∷ k

-- the symbol may be empty
abbrev pub is_optional : Symbol → Bool
is_optional (others d) = true
is_optional (rows d) = true
is_optional (scales d) = true
is_optional (sums d) = true
is_optional (starter d) = true
is_optional (groups d) = true
is_optional (entries d) = true
is_optional (condition d) = true
is_optional base = true
is_optional terms = true
is_optional names = true
is_optional plains = true
is_optional items = true
is_optional _ = false

-- ---- one function for each symbol: the step for a token, with the stack k of the symbols after it

abbrev pub after_opening : ℕ → Terminal → Stack → Step
after_opening d t.open_ k = goes d k
after_opening d _ k = stuck

abbrev pub after_closing : ℕ → Terminal → Stack → Step
after_closing d t.close_ k = goes d k
after_closing d _ k = stuck

abbrev pub after_name : ℕ → Terminal → Stack → Step
after_name d (t.name n) k = goes d k
after_name d _ k = stuck

abbrev pub after_argument : ℕ → Terminal → Stack → Step
after_argument d (t.literal q) k = goes d k
after_argument d (t.name n) k = goes d k
after_argument d _ k = stuck

abbrev pub after_for : ℕ → Terminal → Stack → Step
after_for d t.for_ k = goes d k
after_for d _ k = stuck

abbrev pub after_excluded : ℕ → Terminal → Stack → Step
after_excluded d (t.additive additives.Minus) k = goes d (name d ∷ k)
after_excluded d (t.name n) k = goes d k
after_excluded d _ k = stuck

abbrev pub after_subject : ℕ → Terminal → Stack → Step
after_subject d (t.name n) k = goes d (operator d ∷ k)
after_subject d t.open_ k = goes d (expression d (comparison d ∷ expression d (closing d ∷ k)))
after_subject d _ k = stuck

abbrev pub after_operator : ℕ → Terminal → Stack → Step
after_operator d (t.assigns o) k = goes d (expression d k)
after_operator d (t.compares o) k = goes d (expression d k)
after_operator d _ k = unassigned

abbrev pub after_comparison : ℕ → Terminal → Stack → Step
after_comparison d (t.compares o) k = goes d k
after_comparison d _ k = stuck

abbrev pub after_factor : ℕ → Terminal → Stack → Step
after_factor d (t.additive additives.Minus) k = goes (d + 1) (factor (d + 1) ∷ k)
after_factor d t.open_ k = goes (d + 1) (expression (d + 1) (closing (d + 1) ∷ k))
after_factor d (t.number n) k = goes d k
after_factor d (t.name n) k = goes d k
after_factor d (t.constant c) k = goes d k
after_factor d t.len_of k = goes d (argument d ∷ k)
after_factor d _ k = stuck

abbrev pub after_scales : ℕ → Terminal → Stack → Step
after_scales d (t.multiplicative o) k = goes d (factor d ∷ scales d ∷ k)
after_scales d _ k = stuck

abbrev pub after_sums : ℕ → Terminal → Stack → Step
after_sums d (t.additive o) k = goes d (expression d k)
after_sums d _ k = stuck

abbrev pub after_command : ℕ → Terminal → Stack → Step
after_command d t.open_ k = goes d (rows (d + 1) ∷ closing d ∷ k)
after_command d (t.simple s) k = goes d k
after_command d (t.literal q) k = goes d k
after_command d (t.name n) k = goes d k
after_command d t.non k = goes d (excluded d ∷ k)
after_command d (t.prefix p) k = goes d (command (d + 1) ∷ k)
after_command d (t.count n) k = goes d (expression d (command (d + 1) ∷ k))
after_command d (t.move m) k = goes d (expression d k)
after_command d (t.naming x) k = goes d (name d ∷ k)
after_command d (t.edit x) k = goes d (argument d ∷ k)
after_command d t.set_limit k = goes d (command (d + 1) ∷ for_ d ∷ command (d + 1) ∷ k)
after_command d t.dollar k = goes d (subject d ∷ k)
after_command d t.among k = goes d (opening d ∷ starter d ∷ groups d ∷ closing d ∷ k)
after_command d _ k = stuck

abbrev pub after_among : ℕ → Terminal → Stack → Step
after_among d t.among k = goes d (opening d ∷ starter d ∷ groups d ∷ closing d ∷ k)
after_among d _ k = stuck

abbrev pub after_others : ℕ → Terminal → Stack → Step
after_others d (t.joiner j) k = goes d (command d ∷ others d ∷ k)
after_others d _ k = stuck

abbrev pub after_starter : ℕ → Terminal → Stack → Step
after_starter d t.open_ k = goes (d + 1) (rows (d + 1 + 1) ∷ closing (d + 1) ∷ k)
after_starter d _ k = stuck

abbrev pub after_groups : ℕ → Terminal → Stack → Step
after_groups d (t.literal q) k = goes d (condition d ∷ entries d ∷ k)
after_groups d _ k = stuck

abbrev pub after_entries : ℕ → Terminal → Stack → Step
after_entries d (t.literal q) k = goes d (condition d ∷ entries d ∷ k)
after_entries d t.open_ k = goes (d + 1) (rows (d + 1 + 1) ∷ closing (d + 1) ∷ groups d ∷ k)
after_entries d _ k = stuck

abbrev pub after_inserts : Terminal → Stack → Step
after_inserts (t.inserts a b) k = goes 0 k
after_inserts _ k = stuck

abbrev pub after_macro : Terminal → Stack → Step
after_macro (t.macro_name n) k = goes 0 k
after_macro _ k = stuck

abbrev pub after_base : Terminal → Stack → Step
after_base (t.base b) k = goes 0 k
after_base _ k = stuck

abbrev pub after_literal : Terminal → Stack → Step
after_literal (t.literal q) k = goes 0 k
after_literal _ k = stuck

abbrev pub after_definition : Terminal → Stack → Step
after_definition t.as_ k = goes 0 (command 1 ∷ others 1 ∷ k)
after_definition (t.literal q) k = goes 0 (terms ∷ k)
after_definition (t.name n) k = goes 0 (terms ∷ k)
after_definition _ k = stuck

abbrev pub after_terms : Terminal → Stack → Step
after_terms (t.additive o) k = goes 0 (argument 0 ∷ terms ∷ k)
after_terms _ k = stuck

abbrev pub after_names : Terminal → Stack → Step
after_names (t.name n) k = goes 0 (names ∷ k)
after_names _ k = stuck

abbrev pub after_plain : Terminal → Stack → Step
after_plain (t.declares x) k = goes 0 (opening 0 ∷ names ∷ closing 0 ∷ k)
after_plain t.string_escapes k = goes 0 (inserts ∷ k)
after_plain t.string_def k = goes 0 (macro ∷ base ∷ literal ∷ k)
after_plain t.define k = goes 0 (name 0 ∷ definition ∷ k)
after_plain _ k = stuck

abbrev pub after_item : Terminal → Stack → Step
after_item (t.declares x) k = goes 0 (opening 0 ∷ names ∷ closing 0 ∷ k)
after_item t.string_escapes k = goes 0 (inserts ∷ k)
after_item t.string_def k = goes 0 (macro ∷ base ∷ literal ∷ k)
after_item t.define k = goes 0 (name 0 ∷ definition ∷ k)
after_item t.backward_mode k = goes 0 (opening 0 ∷ plains ∷ closing 0 ∷ k)
after_item _ k = stuck

abbrev pub following : Symbol → Terminal → Stack → Step
following (opening d) x k = after_opening d x k
following (closing d) x k = after_closing d x k
following (name d) x k = after_name d x k
following (argument d) x k = after_argument d x k
following (command d) x k = after_command d x k
following (others d) x k = after_others d x k
following (rows d) x k = after_command d x (others d ∷ rows d ∷ k)
following (for_ d) x k = after_for d x k
following (excluded d) x k = after_excluded d x k
following (subject d) x k = after_subject d x k
following (operator d) x k = after_operator d x k
following (comparison d) x k = after_comparison d x k
following (factor d) x k = after_factor d x k
following (scales d) x k = after_scales d x k
following (sums d) x k = after_sums d x k
following (starter d) x k = after_starter d x k
following (groups d) x k = after_groups d x k
following (entries d) x k = after_entries d x k
following (condition d) x k = after_name d x k
following (among d) x k = after_among d x k
following inserts x k = after_inserts x k
following macro x k = after_macro x k
following base x k = after_base x k
following literal x k = after_literal x k
following definition x k = after_definition x k
following terms x k = after_terms x k
following names x k = after_names x k
following plain x k = after_plain x k
following plains x k = after_plain x (plains ∷ k)
following item x k = after_item x k
following items x k = after_item x (items ∷ k)

abbrev pub or_else : Step → Step → Step
or_else (goes d k) other = goes d k
or_else stuck other = other
or_else unassigned other = unassigned

abbrev pub step : Stack → Terminal → Step
step [] x = stuck
step (s ∷ k) x = or_else (following s x k) (if is_optional s then step k x else stuck)

-- no more tokens are needed
abbrev pub is_done : Stack → Bool
is_done [] = true
is_done (s ∷ k) = is_optional s && is_done k

-- The fault, with the tokens from the one on that cannot come or is too deep.
pub data Fault : Type 0 where
  syntax : List Terminal → Fault
  too_deep : List Terminal → Fault
  no_operator : List Terminal → Fault

abbrev pub after_step : Step → (Stack → Option Fault) → List Terminal → Option Fault
after_step (goes d k) go place = if nat_lt max_depth d then Some (too_deep place) else go k
after_step stuck go place = Some (syntax place)
after_step unassigned go place = Some (no_operator place)

abbrev pub fault : List Terminal → Stack → Option Fault
fault [] k = if is_done k then None else Some (syntax [])
fault (x ∷ xs) k = after_step (step k x) (fault xs) (x ∷ xs)
