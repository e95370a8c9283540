-- A name for a part of Pieces.antt.
use Rattle.std.specs.Prelude.{Option}
use Rattle.sbl_text.specs.declared.escapes.Inserts.{Inserts}
use Rattle.sbl_text.specs.declared.pieces.Expectation.{Expectation}
use Rattle.sbl_text.specs.Pieces.{Setting}

abbrev pub setting : Option Inserts → Expectation → Setting
setting i w = record { inserts = i; wanted = w }
