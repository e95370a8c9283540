use Rattle.std.proofs.Common.{◌∙◌, ◌+◌, List, map, drop, get_or, ap, refl, sym}
use Rattle.std.proofs.Math.ListN.{drop_of_length-le}
use Rattle.sbl_rows.specs.declared.stem_class.StemPair.{StemPair}
use Rattle.sbl_rows.specs.Classes.{Pair}
use Rattle.sbl_rows.specs.Grouping.{plain_pair, view_pair, view_pairs}
use Rattle.sbl_rows.proofs.Loops.{next}
use Rattle.sbl_rows.proofs.OrderFacts.{put_in, put_in-all}
use Rattle.sbl_rows.proofs.SetFacts.{no_pair, plain-insert}
use Rattle.sbl_rows.proofs.stem_class.sorted_pairs.Goals as goal

pub loop-pair-preserved : goal.loop-pair-preserved
loop-pair-preserved c =
    let pairs = c.args.pairs.now in
    let i = c.loop-pair.pair-index in
    let x : StemPair = get_or pairs i no_pair in
    ap (λ (keys : List Pair). put_in keys (view_pairs (drop (i + 1) pairs))) (ap (map plain_pair) c.in_ok-insert.ensures.keys ∙ plain-insert c.loop-pair.set.keys (x.stem, x.member))
    ∙ ap (put_in (map plain_pair c.loop-pair.set.keys)) (sym (next view_pair pairs i no_pair x c.loop-pair-test.true refl))
    ∙ c.loop-pair.invariant

pub returns : goal.returns
returns c =
    ap (λ (l : List StemPair). put_in (map plain_pair c.loop-pair.set.keys) (view_pairs l)) (sym (drop_of_length-le c.args.pairs.now c.loop-pair-test.false))
    ∙ c.loop-pair.invariant ∙ put_in-all (view_pairs c.args.pairs.now)
