use Rattle.std.proofs.Common.{sym, subst}
use Rattle.sbl_ast.specs.Places.{AreShallow}
use Rattle.sbl_ast.specs.Texts.{body, places_in}
use Rattle.sbl_ast.specs.View.{RowView, view_among, view_row}
use Rattle.sbl_tree_amongs.proofs.Held.{body_put}
use Rattle.sbl_tree_amongs.proofs.replacing.put_in_place.Goals as goal

pub returns-clause-shallow : goal.returns-clause-shallow
returns-clause-shallow c = λ h fits. subst (λ (b : RowView). AreShallow (places_in body b)) (sym c.in_ok-copy.ensures.put) (body_put (view_row c.args.row.now) c.args.at (view_among c.args.among.now) h fits)
