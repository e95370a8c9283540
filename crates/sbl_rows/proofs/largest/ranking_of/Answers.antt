use Rattle.std.proofs.Common.{◌≡◌, ◌∙◌, List, map, length, ap, refl, sym, subst}
use Rattle.std.proofs.lemmas.List.{nil_from_length}
use Rattle.sbl_rows.specs.declared.stem_class.StemClass.{StemClass}
use Rattle.sbl_rows.specs.Classes.{view_stem_classes}
use Rattle.sbl_rows.specs.Ranking.{Entry, view_entry}
use Rattle.sbl_rows.proofs.RankFacts.{Sized, onto, onto-none, rank-last}
use Rattle.sbl_rows.proofs.largest.ranking_of.Goals as goal

pub loop-class-init : goal.loop-class-init
loop-class-init c = record {
  ranked = ap (λ (es : List Entry). onto (map view_entry es) (view_stem_classes c.args.classes.items)) c.new-ranking.ensures.empty ∙ onto-none (view_stem_classes c.args.classes.items);
  sized = subst Sized (sym c.new-ranking.ensures.empty) tt;
}

pub loop-class-preserved : goal.loop-class-preserved
loop-class-preserved c =
    rank-last c.loop-class.ranking.entries _ _ _ _ c.in-Some.class _ (c.len.ensures ∙ c.in-Some.class.members.ok.0) refl c.in_ok-insert.ensures.entries c.in-Some.ensures.items c.loop-class.invariant

pub loop-class-preserved-in_ok-insert : goal.loop-class-preserved-in_ok-insert
loop-class-preserved-in_ok-insert c =
    rank-last c.loop-class.ranking.entries _ _ _ _ c.in-Some.class _ (c.len.ensures ∙ c.in-Some.class.members.ok.0) refl c.in_ok-insert.ensures.entries c.in-Some.ensures.items c.loop-class.invariant

pub returns : goal.returns
returns c =
    let items : List StemClass = c.loop-class.classes.items in
    let none : length items ≡ 0 = sym c.loop-class.classes.ok.0 ∙ c.in_default.ensures.cases.0 in
    ap (λ (cs : List StemClass). onto (map view_entry c.loop-class.ranking.entries) (view_stem_classes cs)) (sym (nil_from_length items none))
    ∙ c.loop-class.invariant.ranked
