use Rattle.std.proofs.Common.{◌+◌, ap, drop, map}
use Rattle.sbl_bench.specs.KeptRuns.{setting_of}
use Rattle.sbl_uses.specs.UsableViews.{is_defined, view_usable, view_usables}
use Rattle.sbl_explain.specs.UsableViews.{number_rows, row_for}
use Rattle.sbl_uses.proofs.Loops.{at_index}
use Rattle.sbl_uses.proofs.UserFacts.{all_at, one_more}
use Rattle.sbl_explain.proofs.counts.counts_of.Goals as goal

pub loop-usable-preserved : goal.loop-usable-preserved
loop-usable-preserved c = λ defined keeps.
    let bench = c.args.bench.now in
    let usables = c.args.usables.now in
    let i = c.loop-usable.usable-index in
    one_more (number_rows c.loop-usable.counts.items) (number_rows c.push_count.new.counts.items) _
    (map (row_for bench) (view_usables (drop (i + 1) usables))) (map (row_for bench) (view_usables (drop i usables))) _
    (c.in_ok-push_count.ensures (all_at (is_defined (setting_of bench).script) view_usable usables i _ defined c.loop-usable-test.true) keeps)
    (ap (map (row_for bench)) (at_index view_usable usables i _ c.loop-usable-test.true))
    (c.loop-usable.invariant defined keeps)
