use Rattle.std.proofs.Common.{◌≡◌, ◌∙◌, ◌<◌, length, sym, arith, slice_index_or}
use Rattle.std.proofs.lemmas.List.{get_or_default}
use Rattle.sbl_last_runs.proofs.ChangeFacts.{all_before, all_others, committed_more}
use Rattle.sbl_last_runs.specs.declared.change.RunChange.{RunChange}
use Rattle.sbl_last_runs.proofs.change.commit.Goals as goal

pub loop-change-preserved : goal.loop-change-preserved
loop-change-preserved c =
    let i = c.loop-change.change-index in
    let cs = c.args.changes.now in
    let ls = c.loop-change.changes in
    let so = c.loop-change.invariant.committed in
    let below : i < length cs = c.loop-change-test.true in
    let room : i < length ls = let n = c.loop-change.auto.changes in omega (arith, below, n) in
    let change = slice_index_or ls i c.change-item.result in
    let at : (d : RunChange) → slice_index_or cs i d ≡ change = λ d. sym (so.rest i d (omega arith)) ∙ get_or_default ls i d c.change-item.result room in
    record {
      committed = committed_more c.args.traces.now.entries c.loop-change.traces.entries cs ls i change so c.requires.apart at below c.commit_one.new.traces.entries c.commit_one.new.change room c.commit_one.ensures.finds c.commit_one.ensures.before;
      keys = c.commit_one.ensures.keys ∙ c.loop-change.invariant.keys;
    }

pub returns-clause-others : goal.returns-clause-others
returns-clause-others c =
    let same = c.loop-change.auto.changes in
    let end = c.loop-change.auto.change-index-end in
    all_others c.args.traces.now.entries c.loop-change.traces.entries c.args.changes.now c.loop-change.changes c.loop-change.change-index c.loop-change.invariant.committed (let last = c.loop-change-test.false in omega (arith, same, end, last))

pub returns-clause-before : goal.returns-clause-before
returns-clause-before c =
    let same = c.loop-change.auto.changes in
    let end = c.loop-change.auto.change-index-end in
    all_before c.args.traces.now.entries c.loop-change.traces.entries c.args.changes.now c.loop-change.changes c.loop-change.change-index c.loop-change.invariant.committed (let last = c.loop-change-test.false in omega (arith, same, end, last)) same
