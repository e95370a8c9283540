use Rattle.std.proofs.Common.{rules, ◌≡◌, ◌<◌, ◌∙◌, ap, length, map, arith}
use Rattle.std.specs.Prelude.{slice_set}
use Rattle.std.proofs.lemmas.List.{length-map}
use Rattle.sbl_interpreter.specs.PackedCursors.{unpacked_cursor}
use Rattle.sbl_interpreter.proofs.SlotFacts.{saved_set, set_slot}
use Rattle.sbl_interpreter.proofs.slots.SavedCursors.set.Goals as goal

pub invariant_of-self : goal.invariant_of-self
invariant_of-self c =
    let cursors = c.self.inside.cursors in
    let room : c.args.slot < length (map unpacked_cursor cursors) = omega (arith, length-map cursors unpacked_cursor, c.self.invariant.0) in
    (search rules, rw (set_slot cursors c.args.slot c.of.result c.args.cursor c.of.ensures) (saved_set (map unpacked_cursor cursors) c.args.slot c.args.cursor room c.requires c.self.invariant.1))

pub returns-then-slot-lt-SLOTS : goal.returns-then-slot-lt-SLOTS
returns-then-slot-lt-SLOTS c =
    set_slot c.self.inside.cursors c.args.slot c.of.result c.args.cursor c.of.ensures ∙ ap (λ cursors. slice_set cursors c.args.slot c.args.cursor) c.self.view_is
