-- Undoing and redoing, over what the desk holds in memory.
use Rattle.std.specs.Prelude.{ℕ, Bool, List, Option, Result}
use Rattle.std.specs.declared.alloc.Global.{Global}
use Rattle.std.specs.declared.vec.Vec.{Vec}
use Rattle.sbl_bench.specs.KeptRuns.{KeptRuns, contents_of}
use Rattle.sbl_history.specs.Desks.{Turns, view_edits, view_text}
use Rattle.sbl_history.specs.declared.history.HistoryFault.{HistoryFault}
use Rattle.sbl_history.specs.declared.steps.HeldEdit.{HeldEdit}

-- what undoes or redoes, as `Turns` says it of what the desk holds
abbrev pub TurnsHeld : Bool → Result (Unit {0}) HistoryFault → KeptRuns → KeptRuns → Option (Vec ℕ Global) → Option (Vec ℕ Global)
    → Vec HeldEdit Global → Vec HeldEdit Global → Vec HeldEdit Global → Vec HeldEdit Global → Type 0
TurnsHeld may_break result bench new_bench text new_text from to new_from new_to =
    Turns may_break result (contents_of bench) (contents_of new_bench) (view_text text) (view_text new_text)
    (view_edits from) (view_edits to) (view_edits new_from) (view_edits new_to)
