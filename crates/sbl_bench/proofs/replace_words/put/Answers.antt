use Rattle.std.proofs.Common.{◌∙◌, ◌++◌, [], ◌∷◌, List, ℕ, ap, sym, subst}
use Rattle.sbl_last_runs.specs.KeptEntries.{AreFresh, IsFresh, words_in}
use Rattle.sbl_bench.proofs.Listing.{goes_last_new}
use Rattle.sbl_bench.proofs.MapEntries.{fresh-push, words-push}
use Rattle.sbl_bench.proofs.replace_words.put.Goals as goal

pub returns-clause-words : goal.returns-clause-words
returns-clause-words c =
    let es = c.args.traces.now.entries in
    let key = c.in_ok-key.key in
    ap words_in (goes_last_new c.args.traces.now c.insert.new.self.entries key c.args.last c.args.word.now c.in_ok-key.ensures.items c.requires c.in_ok-insert.ensures.entries)
    ∙ words-push es (key, c.args.last) ∙ ap (λ (w : List ℕ). words_in es ++ w ∷ []) c.in_ok-key.ensures.items

pub returns-clause-kept : goal.returns-clause-kept
returns-clause-kept c s kept fresh =
    let es = c.args.traces.now.entries in
    let key = c.in_ok-key.key in
    subst (AreFresh s) (sym (goes_last_new c.args.traces.now c.insert.new.self.entries key c.args.last c.args.word.now c.in_ok-key.ensures.items c.requires c.in_ok-insert.ensures.entries))
    (fresh-push s es (key, c.args.last) kept (subst (λ (w : List ℕ). IsFresh s w c.args.last) (sym c.in_ok-key.ensures.items) fresh))
