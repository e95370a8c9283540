use Rattle.std.proofs.Common.{◌∙◌, List, map, ap}
use Rattle.std.proofs.lemmas.Result.{IfOk-weaker}
use Rattle.sbl_rows.specs.declared.stem_class.StemClass.{StemClass}
use Rattle.sbl_rows.specs.Classes.{Class, in_order, view_stem_classes}
use Rattle.sbl_rows.specs.Grouping.{view_pairs}
use Rattle.sbl_rows.proofs.ClassLaws.{stems_of_classes}
use Rattle.sbl_rows.proofs.family_rows.stems_of.Goals as goal

pub returns : goal.returns
returns c =
    IfOk-weaker c.class_stems.result _ _
    (λ stems e. e ∙ ap (λ (l : List StemClass). map (λ (d : Class). d.stem) (view_stem_classes l)) c.deref.ensures.value ∙ ap (map (λ (d : Class). d.stem)) c.in_ok-classes.ensures ∙ stems_of_classes (view_pairs c.args.pairs.now) (in_order (map (λ p. p.0) (view_pairs c.args.pairs.now))))
    c.class_stems.ensures
