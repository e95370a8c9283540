use Rattle.std.proofs.Common.{◌≡◌, ◌∙◌, map, sym, arith}
use Rattle.std.specs.Prelude.{slice_index_or}
use Rattle.std.proofs.lemmas.List.{get_or-map}
use Rattle.sbl_code.specs.Slots.{no_cursor}
use Rattle.sbl_interpreter.specs.PackedCursors.{unpacked_cursor}
use Rattle.sbl_interpreter.proofs.slots.SavedCursors.get.Goals as goal

pub returns-then-slot-lt-SLOTS-clause-saved : goal.returns-then-slot-lt-SLOTS-clause-saved
returns-then-slot-lt-SLOTS-clause-saved c =
    let cursors = c.self.inside.cursors in
    let is : c.unpack.result ≡ slice_index_or (map unpacked_cursor cursors) c.args.slot no_cursor = c.unpack.ensures ∙ sym (get_or-map unpacked_cursor cursors c.args.slot _ no_cursor (omega arith)) in
    rw is (c.self.invariant.1 c.args.slot)
