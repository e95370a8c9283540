-- The rows of an input as a text.
use Rattle.std.specs.Prelude.{◌≡◌, ℕ, List, [], Option, None, Result, Ok, Err, map}
use Rattle.std.specs.Str.{chars}
use Rattle.std.specs.declared.vec.Vec.{Vec}
use Rattle.std.specs.declared.alloc.Global.{Global}
use Rattle.sbl_ast.specs.Source.{Source}
use Rattle.sbl_bench.specs.Contents.{opening_contents, opening_fault}
use Rattle.sbl_input.specs.Loading.{IsInput, IsLoadFault}
use Rattle.sbl_reports.specs.Listings.{stems_text}
use Rattle.sbl_input.specs.declared.faults.LoadFault.{LoadFault}

-- The rows of an input: those of a bench of it; or why it has no bench.
abbrev pub AreRowsOf : Option (List ℕ) → Option (List ℕ) → List ℕ → Result (Vec ℕ Global) LoadFault → Type 0
AreRowsOf old new external (Ok text) =
    (s : Source) × (words : List (List ℕ)) × IsInput old new external s words
    × (opening_fault [] (map chars words) ≡ None) × (text.items ≡ stems_text (opening_contents s (map chars words)))
AreRowsOf old new external (Err f) = IsLoadFault old new external f
