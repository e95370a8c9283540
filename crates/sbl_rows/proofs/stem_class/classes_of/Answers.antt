use Rattle.std.proofs.Common.{◌∙◌, List, [], ap, map}
use Rattle.sbl_rows.specs.Grouping.{TextPair, put_pairs, plain_pair, view_pairs}
use Rattle.sbl_rows.proofs.GroupFacts.{grouped_all}
use Rattle.sbl_rows.proofs.stem_class.classes_of.Goals as goal

pub loop-pair-init : goal.loop-pair-init
loop-pair-init c =
    rw c.new-classes.ensures.items (
    ap (λ (keys : List TextPair). put_pairs [] (map plain_pair keys)) (c.into_iter-pair-iterator.ensures.into_iter_gives ∙ c.iter-pair-items.ensures.rest)
    ∙ ap (put_pairs []) c.in_ok-set.ensures
    ∙ grouped_all (view_pairs c.args.pairs.now))
