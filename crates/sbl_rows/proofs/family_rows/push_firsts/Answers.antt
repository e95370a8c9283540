use Rattle.std.proofs.Common.{◌∙◌, ◌+◌, ◌++◌, List, drop, get_or, ap, refl, sym}
use Rattle.sbl_rows.specs.declared.stem_class.StemPair.{StemPair}
use Rattle.sbl_rows.specs.Classes.{Pair}
use Rattle.sbl_rows.specs.Counting.{firsts}
use Rattle.sbl_rows.specs.Grouping.{view_pair, view_pairs}
use Rattle.sbl_rows.specs.KnownOutcomes.{has_text}
use Rattle.sbl_rows.proofs.HeadFacts.{firsts-step}
use Rattle.sbl_rows.proofs.Loops.{next}
use Rattle.sbl_rows.proofs.SetFacts.{no_pair}
use Rattle.sbl_rows.proofs.family_rows.push_firsts.Goals as goal

pub loop-pair-preserved : goal.loop-pair-preserved
loop-pair-preserved c =
    let xs = c.args.family.now in
    let i = c.loop-pair.pair-index in
    let x : StemPair = get_or xs i no_pair in
    firsts-step (has_text c.loop-pair.seen) (has_text c.push_new.new.seen) (view_pair x) (view_pairs (drop (i + 1) xs)) (view_pairs c.loop-pair.pairs.items) _ _
    c.in_ok-push_new.ensures.seen c.in_ok-push_new.ensures.pairs
    (ap (λ (ps : List Pair). view_pairs c.loop-pair.pairs.items ++ firsts (has_text c.loop-pair.seen) ps) (sym (next view_pair xs i no_pair x c.loop-pair-test.true refl)) ∙ c.loop-pair.invariant)
