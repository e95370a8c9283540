-- A whole script that is the one in force.
use Rattle.std.specs.Prelude.{◌≡◌, ℕ, List}
use Rattle.sbl_bench.specs.Contents.{Contents}
use Rattle.sbl_bench.specs.Edits.{Whole, IsAccepted}

-- if bytes are read as the script in force, whatever their layout and comments, no word runs and the bench is unchanged
abbrev pub EqualScriptRunsNothing : Type 0
EqualScriptRunsNothing = (s t : Contents) (bytes : List ℕ) → IsAccepted s (Whole bytes) t → t.setting.script ≡ s.setting.script → t ≡ s
