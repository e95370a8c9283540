use Rattle.std.proofs.Common.{◌≡◌, ◌||◌, ℕ, List, Bool, drop}
use Rattle.std.specs.List.{list_any}
use Rattle.sbl_bench.specs.KeptRuns.{setting_of}
use Rattle.sbl_uses.specs.Unused.{Take, takes_of}
use Rattle.sbl_uses.specs.UnusedViews.{takes_in, texts_of}
use Rattle.sbl_explain.proofs.takes.takes_by_words.Given as goal

abbrev pub invariant-loop-word : goal.invariant-loop-word
invariant-loop-word l = (test : Take → Bool) → (list_any (λ (w : List ℕ). list_any test (takes_of (setting_of l.bench) w)) (texts_of (drop l.word-index l.words)) || list_any test (takes_in l.takes)) ≡ list_any (λ (w : List ℕ). list_any test (takes_of (setting_of l.bench) w)) (texts_of l.words)
