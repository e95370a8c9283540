use Rattle.std.proofs.Common.{◌≡◌, ◌∙◌, ◌+◌, List, ℕ, ap, drop, map, true, subst, sym}
use Rattle.std.specs.Borrow.{Bor}
use Rattle.sbl_bench.specs.KeptRuns.{setting_of}
use Rattle.sbl_bench.specs.Vocabulary.{is_word}
use Rattle.sbl_explain.specs.Kept.{has_taken, kept_words}
use Rattle.sbl_uses.specs.UnusedViews.{texts_of}
use Rattle.sbl_uses.specs.Used.{Entry, Take, uses}
use Rattle.sbl_explain.specs.WhyRows.{routine_names}
use Rattle.sbl_explain.specs.declared.kept_words.KeptWord.{KeptWord}
use Rattle.sbl_explain.proofs.KeptFacts.{mapped_more}
use Rattle.sbl_uses.proofs.Loops.{at_index}
use Rattle.sbl_explain.proofs.BenchWords.{word_at}
use Rattle.sbl_uses.proofs.UserFacts.{one_more}
use Rattle.sbl_explain.proofs.kept_takes.words_with_takes.Goals as goal

pub loop-word-preserved : goal.loop-word-preserved
loop-word-preserved c = λ u are stays.
    let s = setting_of c.args.bench.now in
    let names = routine_names s in
    let words = c.deref-word-items.result.now in
    let i = c.loop-word.word-index in
    let old = c.loop-word.words.items in
    let new = c.push.new.self.items in
    let rest = texts_of (drop (i + 1) words) in
    let at = at_index (λ (t : Bor (List ℕ)). t.now) words i _ c.loop-word-test.true in
    let same = ap (λ (l : List (Bor (List ℕ))). texts_of l) c.deref-word-items.ensures.value ∙ c.in_ok-all.ensures in
    let list = c.in_ok-takes.ensures u are stays (ap (is_word _) (sym same) ∙ word_at words i _ c.loop-word-test.true) in (
      one_more (kept_words old) (kept_words new) _ rest (texts_of (drop i words)) _
          (ap (λ (l : List KeptWord). kept_words l) c.in_ok-push.ensures.items ∙ mapped_more (λ (k : KeptWord). k.word.items) old _ _ c.in_ok-from_slice.ensures.items)
          at (c.loop-word.invariant u are stays).0,
      λ (t : Take).
          let run = λ (w : List ℕ). uses s w (Entry t) in
          one_more (map (has_taken names t) old) (map (has_taken names t) new) _ (map run rest) (map run (texts_of (drop i words))) _
          (ap (λ (l : List KeptWord). map (has_taken names t) l) c.in_ok-push.ensures.items ∙ mapped_more (has_taken names t) old _ _ (list t))
          (ap (λ (l : List (List ℕ)). map run l) at) ((c.loop-word.invariant u are stays).1 t),
    )
