use Rattle.std.proofs.Common.{◌≡◌, ◌++◌, ℕ, List, drop, map}
use Rattle.sbl_bench.specs.KeptRuns.{setting_of}
use Rattle.sbl_rows.specs.Setting.{Setting}
use Rattle.sbl_explain.specs.Kept.{AreKept, StayKept, has_taken, kept_words}
use Rattle.sbl_uses.specs.UnusedViews.{texts_of}
use Rattle.sbl_uses.specs.Used.{Entry, Take, uses}
use Rattle.sbl_explain.specs.WhyRows.{routine_names}
use Rattle.sbl_explain.proofs.kept_takes.words_with_takes.Given as goal

-- the words so far with what they take, and the words still to come
abbrev pub invariant-loop-word : goal.invariant-loop-word
invariant-loop-word l =
    (u : Setting) → AreKept u l.kept → StayKept l.bench u l.again
    → (kept_words l.words.items ++ texts_of (drop l.word-index l.word-items) ≡ texts_of l.word-items)
    × ((t : Take) → map (has_taken (routine_names (setting_of l.bench)) t) l.words.items ++ map (λ (w : List ℕ). uses (setting_of l.bench) w (Entry t)) (texts_of (drop l.word-index l.word-items)) ≡ map (λ (w : List ℕ). uses (setting_of l.bench) w (Entry t)) (texts_of l.word-items))
