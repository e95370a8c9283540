use Rattle.std.proofs.Common.{◌≡◌, ◌++◌, drop}
use Rattle.sbl_machine.specs.ItemRefs.{item_of_ref}
use Rattle.sbl_uses.specs.UnusedViews.{texts_of}
use Rattle.sbl_uses.specs.UsableViews.{entries_of, view_usables}
use Rattle.sbl_uses.proofs.usables.push_entries.Given as goal

abbrev pub invariant-loop-string : goal.invariant-loop-string
invariant-loop-string l = view_usables l.usables.items ++ entries_of (item_of_ref l.among) (texts_of (drop l.string-index l.strings)) ≡ view_usables l.initial.usables.items ++ entries_of (item_of_ref l.among) (texts_of l.strings)
