-- What a kept state has of its last run.
use Rattle.std.specs.Prelude.{List, [], Option, Some, None}
use Rattle.sbl_semantics.specs.declared.touch.Touch.{Touch}
use Rattle.sbl_semantics.specs.State.{State}

-- what the last run touched; nothing if there was none
abbrev pub touched_in : Option State → List Touch
touched_in None = []
touched_in (Some s) = s.touched
