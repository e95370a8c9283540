use Rattle.std.proofs.Common.{◌∙◌, ◌+◌, ◌||◌, Bool, List, ℕ, ap, drop, sym}
use Rattle.std.specs.Borrow.{Bor}
use Rattle.std.specs.List.{list_any}
use Rattle.sbl_bench.specs.KeptRuns.{setting_of}
use Rattle.sbl_bench.specs.Vocabulary.{is_word}
use Rattle.sbl_machine.specs.ItemRefs.{items_of_refs}
use Rattle.sbl_semantics.specs.TouchedItems.{touched_items}
use Rattle.sbl_uses.specs.UnusedViews.{texts_of}
use Rattle.sbl_uses.proofs.Loops.{at_index}
use Rattle.sbl_uses.proofs.Unions.{or_prefix}
use Rattle.sbl_explain.proofs.BenchWords.{word_at}
use Rattle.sbl_explain.proofs.touched_items.touched_by_words.Goals as goal

pub loop-word-preserved : goal.loop-word-preserved
loop-word-preserved c = λ same test.
    let s = setting_of c.args.bench.now in
    let words = c.args.words.now in
    let i = c.loop-word.word-index in
    let run = λ (w : List ℕ). list_any test (touched_items s.script w s.limit) in
    let rest = list_any run (texts_of (drop (i + 1) words)) in
    let old = list_any test (items_of_refs c.loop-word.items) in
    ap (λ (b : Bool). rest || b)
    (c.in_ok-add_touched.ensures (ap (is_word _) (sym same) ∙ word_at words i _ c.loop-word-test.true) test)
    ∙ or_prefix rest _ old
    ∙ ap (λ (ws : List (List ℕ)). list_any run ws || old) (sym (at_index (λ (t : Bor (List ℕ)). t.now) words i _ c.loop-word-test.true))
    ∙ c.loop-word.invariant same test
