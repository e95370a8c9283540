-- Taking an edit back.
use Rattle.std.specs.Prelude.{◌≡◌, ℕ, List}
use Rattle.sbl_bench.specs.Contents.{Contents}
use Rattle.sbl_bench.specs.Edits.{IsAccepted, Whole}
use Rattle.sbl_bench.specs.Undo.{Shows}

-- if these bytes replace the whole script of bench u, and are read as the script of s, the bench shows what s has for the words of u
abbrev pub BringsBack : Contents → Contents → List ℕ → Contents → Type 0
BringsBack s u bytes v = IsAccepted u (Whole bytes) v → v.setting.script ≡ s.setting.script → Shows v s.setting u.words
