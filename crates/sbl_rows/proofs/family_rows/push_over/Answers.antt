use Rattle.std.proofs.Common.{◌∙◌, ◌++◌, List, ap}
use Rattle.std.specs.List.{filter_map}
use Rattle.std.proofs.lemmas.Result.{on_ok_weaker}
use Rattle.sbl_rows.specs.declared.stem_class.StemClass.{StemClass}
use Rattle.sbl_rows.specs.Classes.{Class, view_stem_classes}
use Rattle.sbl_rows.specs.Counting.{view_families}
use Rattle.sbl_rows.specs.Families.{FamilyResult, over, view_results}
use Rattle.sbl_rows.specs.Grouping.{classes_sorted}
use Rattle.sbl_rows.proofs.HeadFacts.{over-heads}
use Rattle.sbl_rows.proofs.family_rows.push_over.Goals as goal

pub returns : goal.returns
returns c =
    on_ok_weaker c.push_classes.result
    (λ more. more ∙ ap (λ (l : List FamilyResult). view_results c.args.rows.now.items ++ l)
    (ap (λ (cs : List StemClass). filter_map (λ (d : Class). over d.stem d.members) (view_stem_classes cs)) c.deref.ensures.value
    ∙ ap (filter_map (λ (d : Class). over d.stem d.members)) (c.in_ok-classes.ensures ∙ ap classes_sorted c.in_ok-heads.ensures)
    ∙ over-heads (view_families c.args.families.now)))
    c.push_classes.ensures
