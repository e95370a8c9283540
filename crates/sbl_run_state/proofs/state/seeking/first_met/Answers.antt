use Rattle.std.proofs.Common.{◌≡◌, Some, rules, ap, ◌∙◌}
use Rattle.std.proofs.lemmas.Iterator.Adapters.{YieldsList-from_rev_slice}
use Rattle.std.proofs.lemmas.Iterator.Search.{position_from_yields_List}
use Rattle.sbl_program.specs.CharacterClasses.{members}
use Rattle.sbl_semantics.specs.inside.MoveParts.{next_is}
use Rattle.sbl_run_state.proofs.state.seeking.first_met.Goals as goal

pub returns-in-Backward : goal.returns-in-Backward
returns-in-Backward c =
    rw c.in-Backward.is (position_from_yields_List (λ x. next_is c.args.wanted (members c.args.class.now) (Some x)) _ _ _ c.position-in-Backward.ensures.ran (YieldsList-from_rev_slice c.args.part.now cc) (λ x b q k. search rules))
