-- What is known of an edit that was broken off.
use Rattle.std.specs.Prelude.{◌≡◌, Option, None, Err}
use Rattle.sbl_bench.specs.BreakingOff.{IsBrokenOff}
use Rattle.sbl_bench.specs.Contents.{Contents}
use Rattle.sbl_bench.specs.Edits.{Edit, Edits, IsVerdict}
use Rattle.sbl_bench.specs.Undo.{Shows}
use Rattle.sbl_bench.specs.declared.fault.EditFault.{EditFault}
use Rattle.sbl_bench.specs.declared.fault.EditFault.TheVariants as fault

-- an edit that nobody can break off is not broken off
abbrev pub PlainEditsEnd : Type 0
PlainEditsEnd = (s t : Contents) (e : Edit) → Edits (Err fault.BrokenOff) s e t → ⊥

-- an edit that was broken off has one verdict: it is accepted
abbrev pub OnlyGoodEditsBreak : Type 0
OnlyGoodEditsBreak = (s t u : Contents) (e : Edit) (v : Option EditFault) → IsBrokenOff s e t → IsVerdict s e v u → v ≡ None

-- after it the bench shows what it showed before
abbrev pub BrokenEditShowsTheOld : Type 0
BrokenEditShowsTheOld = (s t : Contents) (e : Edit) → IsBrokenOff s e t → Shows t s.setting s.words
