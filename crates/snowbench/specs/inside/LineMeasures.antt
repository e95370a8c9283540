-- What a line may have too many of.
use Rattle.std.specs.Prelude.{ℕ, Bool, List}
use Rattle.snowbench.specs.ScriptFiles.{is_long, is_overlong}
use Rattle.snowbench.specs.declared.script_files.Measure.{Measure}
use Rattle.snowbench.specs.declared.script_files.Measure.TheVariants as measure

abbrev pub is_over : Measure → List ℕ → Bool
is_over measure.Bytes = is_overlong
is_over measure.Characters = is_long
