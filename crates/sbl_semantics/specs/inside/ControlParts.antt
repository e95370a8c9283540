-- A name for a part of Control.antt.
use Rattle.std.specs.Prelude.{Bool, true, if◌then◌else◌}
use Rattle.sbl_semantics.specs.State.{State, Ending, Signals}
use Rattle.sbl_semantics.specs.State.{saved_cursor, put_back}
use Rattle.sbl_ast.specs.declared.mode.Mode.{Mode}

abbrev pub end_search : Bool → Mode → State → State → Ending
end_search past m s t = if past then Signals true t else put_back m (saved_cursor s) t
