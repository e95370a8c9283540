-- What the parser expects at the start of each text.
use Rattle.std.specs.Prelude.{[], ◌∷◌}
use Rattle.sbl_ast.specs.Texts.{Text, script, body, terms, among}
use Rattle.sbl_parser.specs.Steps.{Stack, command, others, argument, items}
use Rattle.sbl_parser.specs.Steps as wanted

abbrev pub first_stack : Text → Stack
first_stack script = items ∷ []
first_stack body = command 1 ∷ others 1 ∷ []
first_stack terms = argument 0 ∷ wanted.terms ∷ []
first_stack (among d) = wanted.among d ∷ []
