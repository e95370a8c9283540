-- The results of the functions of the parser.
use Rattle.std.specs.Prelude.{◌≡◌, ℕ, List, [], ◌∷◌, ◌++◌, length, Option, None, Some, Result, Ok, Err}
use Rattle.sbl_ast.specs.Spelled.{spelled_expression}
use Rattle.sbl_ast.specs.View.{view_expression}
use Rattle.sbl_ast.specs.declared.tree.Comparison.{Comparison}
use Rattle.sbl_ast.specs.declared.tree.Expression.{Expression}
use Rattle.sbl_parser.specs.declared.cursor.Cursor.{Cursor}
use Rattle.sbl_parser.specs.declared.cursor.Delimiter.{Delimiter}
use Rattle.sbl_parser.specs.declared.cursor.Delimiter.TheVariants.{Open, Close, For}
use Rattle.sbl_parser.specs.declared.error.ReadError.{ReadError}
use Rattle.sbl_parser.specs.declared.error.ReadError.TheVariants as errors
use Rattle.sbl_parser.specs.declared.role.Role.{Role}
use Rattle.sbl_parser.specs.declared.role.Role.TheVariants as roles
use Rattle.sbl_ast.specs.Terminal.{Terminal, terminals_of}
use Rattle.sbl_ast.specs.Terminal as t
use Rattle.sbl_parser.specs.Steps.{Stack, Symbol, Fault, fault, syntax, too_deep, no_operator}
use Rattle.sbl_parser.specs.Steps as s

-- the tokens that are still to be read
abbrev pub ahead : Cursor → List Terminal
ahead c = terminals_of c.tokens.now

-- the error for a fault: how many tokens there are from its own on
abbrev pub error_for : Option Fault → Option ReadError
error_for None = None
error_for (Some (syntax rest)) = Some (errors.Syntax (length rest))
error_for (Some (too_deep rest)) = Some (errors.TooDeep (length rest))
error_for (Some (no_operator rest)) = Some (errors.OutOfProfile (length rest))

-- the error is that of the fault; nothing is said about a failed allocation
abbrev pub Fails : ReadError → Option Fault → Type 0
Fails errors.Memory found = Unit {0}
Fails (errors.Syntax n) found = error_for found ≡ Some (errors.Syntax n)
Fails (errors.TooDeep n) found = error_for found ≡ Some (errors.TooDeep n)
Fails (errors.OutOfProfile n) found = error_for found ≡ Some (errors.OutOfProfile n)

-- The tokens are those of what was read, followed by the rest; and whatever symbols k are expected after ss, the fault of
-- all these tokens is the fault of the rest under k. Or the error is the fault of these tokens, whatever symbols k are
-- expected after ss.
abbrev pub Reads : {X : Type 0} → Stack → (X → List Terminal → List Terminal) → List Terminal → Result X ReadError → List Terminal → Type 0
Reads ss spelled tokens (Ok x) rest = (tokens ≡ spelled x rest) × ((k : Stack) → fault tokens (ss ++ k) ≡ fault rest k)
Reads ss spelled tokens (Err e) rest = (k : Stack) → Fails e (fault tokens (ss ++ k))

-- ---- the end of a comparison of two values, as `== E )`

abbrev pub comparison_end : ℕ → Stack
comparison_end d = s.comparison d ∷ s.expression d (s.closing d ∷ [])

abbrev pub spelled_end : Comparison × Expression → List Terminal → List Terminal
spelled_end x rest = t.compares x.0 ∷ spelled_expression (view_expression x.1) (t.close_ ∷ rest)

-- ---- delimiters

abbrev pub delimiter_role : Delimiter → Role
delimiter_role Open = roles.Open
delimiter_role Close = roles.Close
delimiter_role For = roles.For

abbrev pub delimiter_token : Delimiter → Terminal
delimiter_token Open = t.open_
delimiter_token Close = t.close_
delimiter_token For = t.for_

-- the symbol under which the token is expected
abbrev pub delimiter_symbol : Delimiter → (depth : ℕ) → Symbol
delimiter_symbol Open d = s.opening d
delimiter_symbol Close d = s.closing d
delimiter_symbol For d = s.for_ d
