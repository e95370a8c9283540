-- Saved cursors in six bytes.
use Rattle.sbl_semantics.specs.declared.cursor.SavedCursor.{SavedCursor}
use Rattle.sbl_interpreter.specs.declared.slots.PackedCursor.{PackedCursor}

-- the saved cursor with these numbers
abbrev pub unpacked_cursor : PackedCursor → SavedCursor
unpacked_cursor s = record { cursor = s.cursor; beyond = s.beyond; length = s.length }
