-- The program of a script.
use Rattle.sbl_compiler.specs.NumberedItems.{numbered_items}
use Rattle.sbl_program.specs.Program.{Program}
use Rattle.sbl_ast.specs.Source.{Source}

abbrev pub numbered_script : Source → Program
numbered_script script = numbered_items script.items script.external
