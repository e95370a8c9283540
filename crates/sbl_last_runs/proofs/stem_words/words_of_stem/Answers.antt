use Rattle.std.proofs.Common.{◌∙◌, subst}
use Rattle.sbl_last_runs.specs.Pairs.{IsIndexed}
use Rattle.sbl_last_runs.proofs.ClassFacts.{words_kept}
use Rattle.sbl_rows.proofs.Ranging.{if_ok_weaker, own_keys}
use Rattle.sbl_last_runs.proofs.stem_words.words_of_stem.Goals as goal

pub returns-in-Some : goal.returns-in-Some
returns-in-Some c =
    let es = c.args.traces.now.entries in
    let set = c.in-Some.pairs in
    if_ok_weaker c.words_among.result
    (λ words is s fresh. is ∙ words_kept s es set c.args.stem.now fresh c.words_are_unique.ensures (subst (IsIndexed es) c.in-Some.is c.requires.indexed) c.words_among.ensures.ordered (own_keys set))
    c.words_among.ensures.words

pub returns-in_ok-pairs-in-None : goal.returns-in_ok-pairs-in-None
returns-in_ok-pairs-in-None c =
    let es = c.args.traces.now.entries in
    let set = c.in_ok-pairs-in-None.pairs in
    if_ok_weaker c.words_among-in-None.result
    (λ words is s fresh. is ∙ words_kept s es set c.args.stem.now fresh c.words_are_unique.ensures c.in_ok-pairs-in-None.ensures c.words_among-in-None.ensures.ordered (own_keys set))
    c.words_among-in-None.ensures.words
