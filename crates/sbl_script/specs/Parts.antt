-- A part of a script, without memory addresses.
use Rattle.sbl_script.specs.declared.part.Part.{Part}
use Rattle.sbl_script.specs.declared.part.Part.TheVariants as parts
use Rattle.sbl_ast.specs.NamedParts.{Part', Among, Routine, Grouping}

abbrev pub view_part : Part → Part'
view_part (parts.Routine name) = Routine name.now
view_part (parts.Among name k) = Among name.now k
view_part (parts.Grouping name) = Grouping name.now
