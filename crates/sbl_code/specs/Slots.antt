-- The slots in which a run saves cursors.
use Rattle.std.specs.Prelude.{List, replicate}
use Rattle.sbl_semantics.specs.declared.cursor.SavedCursor.{SavedCursor}

-- what a slot holds before a cursor is saved in it
abbrev pub no_cursor : SavedCursor
no_cursor = record { cursor = 0; beyond = 0; length = 0 }

-- the slots before a cursor is saved
abbrev pub no_cursors : List SavedCursor
no_cursors = replicate 4 no_cursor
