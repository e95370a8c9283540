-- The tokens that a command or an item can begin with.
use Rattle.std.specs.Prelude.{Bool, true, false}
use Rattle.sbl_parser.specs.declared.role.Role.{Role}
use Rattle.sbl_parser.specs.declared.role.Role.TheVariants as roles

abbrev pub begins_command : Role → Bool
begins_command roles.Open = true
begins_command (roles.Simple o) = true
begins_command roles.Literal = true
begins_command roles.Name = true
begins_command roles.Non = true
begins_command (roles.Prefix o) = true
begins_command (roles.Count o) = true
begins_command (roles.Move o) = true
begins_command (roles.Naming o) = true
begins_command (roles.Splice o) = true
begins_command roles.SetLimit = true
begins_command roles.Dollar = true
begins_command roles.Among = true
begins_command _ = false

abbrev pub begins_plain : Role → Bool
begins_plain (roles.Declares o) = true
begins_plain roles.StringEscapes = true
begins_plain roles.StringDef = true
begins_plain roles.Define = true
begins_plain _ = false

abbrev pub begins_item : Role → Bool
begins_item (roles.Declares o) = true
begins_item roles.StringEscapes = true
begins_item roles.StringDef = true
begins_item roles.Define = true
begins_item roles.BackwardMode = true
begins_item _ = false

-- the token is a literal or a name
