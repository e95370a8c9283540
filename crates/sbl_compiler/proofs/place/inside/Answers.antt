use Rattle.std.proofs.Common.{ap, false}
use Rattle.sbl_compiler.specs.NumberedItems.{Position}
use Rattle.sbl_compiler.specs.NumberedAmongs.{AmongStrings}
use Rattle.std.specs.Prelude.{ℕ, List}
use Rattle.sbl_compiler.specs.NumberedView.{view_found}
use Rattle.sbl_compiler.proofs.NumberingPlaces.{dropped_more}
use Rattle.sbl_compiler.proofs.place.inside.Goals as goal

at : ℕ → List AmongStrings → Position
at n fs = record { coming = fs; following = n; waits = false }

pub returns-then-place-len : goal.returns-then-place-len
unfolding at
returns-then-place-len c = ap (at c.args.place.following) (dropped_more view_found c.args.place.next c.args.amongs.now.items)
