-- The map from a size and a stem to the members of a class.
use Rattle.std.specs.Prelude.{ℕ}
use Rattle.std.specs.declared.vec.Vec.{Vec}
use Rattle.std.specs.declared.alloc.Global.{Global}
use Rattle.std.specs.declared.cmp.Reverse.{Reverse}
use Rattle.sbl_rows.specs.Classes.{Class, texts_of}
use Rattle.sbl_rows.specs.KnownOutcomes.{Text}

abbrev pub Rank : Type 0
Rank = Reverse ℕ × Text

abbrev pub Entry : Type 0
Entry = Rank × Vec Text Global

abbrev pub view_entry : Entry → Class
view_entry e = record { stem = e.0.1.now; members = texts_of e.1.items }
