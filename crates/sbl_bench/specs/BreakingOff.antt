-- An edit that may be broken off: before each run the caller is asked whether it should go on.
use Rattle.std.specs.Prelude.{◌≡◌, ◌<◌, ◌+◌, ℕ, Bool, true, Result, Ok, Err}
use Rattle.sbl_bench.specs.Contents.{Contents}
use Rattle.sbl_bench.specs.Edits.{Edit, Edits, IsAccepted, runs_needed}
use Rattle.sbl_bench.specs.declared.fault.EditFault.{EditFault}
use Rattle.sbl_bench.specs.declared.fault.EditFault.TheVariants as fault

-- The edit would be accepted, but was broken off before one of its runs. The runs before that one were counted; nothing else is
-- changed.
pub record IsBrokenOff (s : Contents) (e : Edit) (t : Contents) : Type 0 where
  pub made : Contents
  pub is : IsAccepted s e made
  pub runs : ℕ
  pub fewer : runs < runs_needed s e is.setting
  pub after : t ≡ record s { count = s.count + runs }

-- the result of an edit that may be broken off, and the bench after it
abbrev pub EditsOrBreaks : Result (Unit {0}) EditFault → Contents → Edit → Contents → Type 0
EditsOrBreaks (Ok u) s e t = Edits (Ok u) s e t
EditsOrBreaks (Err fault.BrokenOff) s e t = IsBrokenOff s e t
EditsOrBreaks (Err f) s e t = Edits (Err f) s e t

-- Whether the caller has said that the edit should be broken off, before and after a call that ends with this fault: it is `BrokenOff`
-- only if the caller said so in the call.
abbrev pub BreaksIfTold : Bool → Bool → EditFault → Type 0
BreaksIfTold said said_now fault.BrokenOff = said_now ≡ true
BreaksIfTold said said_now f = said_now ≡ said
