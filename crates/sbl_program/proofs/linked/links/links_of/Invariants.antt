use Rattle.std.proofs.Common.{◌≡◌, length}
use Rattle.sbl_program.specs.Linked.{AreLinks, GoDown, texts_of}
use Rattle.sbl_program.proofs.linked.links.links_of.Given as goal

abbrev pub invariant-loop-i : goal.invariant-loop-i
invariant-loop-i l = AreLinks (texts_of l.rows) l.links.items × GoDown l.links.items × (length l.links.items ≡ l.i)
