-- The names of the refusals of a run.
use Rattle.std.specs.Prelude.{ℕ, List, codes}
use Rattle.sbl_semantics.specs.declared.fault.RunFault.{RunFault}
use Rattle.sbl_semantics.specs.declared.fault.RunFault.TheVariants.{Steps, Depth, Slice, Cursor, Integer, Divide, TooLong}

abbrev pub name_of : RunFault → List ℕ
name_of Steps = codes "Steps"
name_of Depth = codes "Depth"
name_of Slice = codes "Slice"
name_of Cursor = codes "Cursor"
name_of Integer = codes "Integer"
name_of Divide = codes "Divide"
name_of TooLong = codes "TooLong"
