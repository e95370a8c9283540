use Rattle.std.proofs.Common.{◌∙◌, List, [], ap}
use Rattle.std.proofs.lemmas.Result.{IfOk-weaker}
use Rattle.sbl_rows.specs.declared.stem_class.StemPair.{StemPair}
use Rattle.sbl_rows.specs.Grouping as spec
use Rattle.sbl_rows.specs.Grouping.{view_pairs}
use Rattle.sbl_rows.proofs.GroupFacts.{grouped_turn}
use Rattle.sbl_rows.proofs.HeadFacts.{same_classes}
use Rattle.sbl_rows.proofs.family_rows.classes_in_turn.Goals as goal

pub returns : goal.returns
returns c =
    IfOk-weaker c.group_pairs.result _ _
    (λ classes e. e ∙ ap (λ (l : List StemPair). spec.put_pairs [] (view_pairs l)) c.deref.ensures.value ∙ grouped_turn (view_pairs c.in_ok-pairs.pairs.items) c.in_ok-pairs.ensures.rise ∙ same_classes (view_pairs c.in_ok-pairs.pairs.items) (view_pairs c.args.pairs.items) c.in_ok-pairs.ensures.members)
    c.group_pairs.ensures
