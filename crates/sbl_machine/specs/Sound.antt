-- The program of a script runs as the script does.
use Rattle.std.specs.Prelude.{◌≡◌, ℕ, List}
use Rattle.sbl_semantics.specs.Meaning.{ending}
use Rattle.sbl_program.specs.Start.{ending_of}
use Rattle.sbl_machine.specs.NumberedScript.{numbered_script}
use Rattle.sbl_ast.specs.Source.{Source}

-- a run of the program of a script is a run of the script
abbrev pub RunIsSound : Type 0
RunIsSound = (script : Source) (word : List ℕ) (limit : ℕ) → ending_of (numbered_script script) word limit ≡ ending script word limit
