-- What a filter writes for a script in a file, and words up to the end of input.
use Rattle.std.specs.Prelude.{◌≡◌, ℕ, List, [], Option, Some, Result, Ok, Err}
use Rattle.std.specs.Io.KnownBytes.{Appends, Keeps}
use Rattle.sbl_ast.specs.Source.{Source}
use Rattle.sbl_batch.specs.ToEnd.{FiltersToEnd}
use Rattle.snowbench.specs.ScriptFiles.{IsFileScript, LacksFileScript}
use Rattle.snowbench.specs.declared.script_files.FilesFault.{FilesFault}
use Rattle.snowbench.specs.declared.script_files.FilesFault.TheVariants.{Script, Words}

-- The words are filtered by the script of the file; a fault of them has the number of its line. Or there is no script: nothing is read, and
-- nothing is written.
abbrev pub FiltersFile : List ℕ → List ℕ → Option (List ℕ) → Option (List ℕ) → Option (List ℕ) → Option (List ℕ)
    → Result (Unit {0}) FilesFault → Type 0
FiltersFile script external left new_left held new_held (Ok u) =
    (s : Source) × IsFileScript script external s × FiltersToEnd s left new_left held new_held (Ok u)
FiltersFile script external left new_left held new_held (Err (Script f)) =
    LacksFileScript script external f × Keeps left new_left × Appends held new_held []
FiltersFile script external left new_left held new_held (Err (Words f)) =
    (s : Source) × (n : ℕ) × IsFileScript script external s × (f.line ≡ Some n)
    × FiltersToEnd s left new_left held new_held (Err (record { line = n; fault = f.fault }))
FiltersFile script external left new_left held new_held (Err f) = ⊥
