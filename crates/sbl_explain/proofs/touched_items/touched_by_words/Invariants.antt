use Rattle.std.proofs.Common.{◌≡◌, ◌||◌, ℕ, List, Bool, drop}
use Rattle.std.specs.List.{list_any}
use Rattle.sbl_bench.specs.KeptRuns.{setting_of}
use Rattle.sbl_machine.specs.ItemRefs.{items_of_refs}
use Rattle.sbl_semantics.specs.TouchedItems.{touched_items}
use Rattle.sbl_ast.specs.NamedParts.{Part'}
use Rattle.sbl_uses.specs.UnusedViews.{texts_of}
use Rattle.sbl_explain.proofs.touched_items.touched_by_words.Given as goal

abbrev pub invariant-loop-word : goal.invariant-loop-word
invariant-loop-word l = texts_of l.words ≡ l.bench.words → (test : Part' → Bool) → (list_any (λ (w : List ℕ). list_any test (touched_items (setting_of l.bench).script w (setting_of l.bench).limit)) (texts_of (drop l.word-index l.words)) || list_any test (items_of_refs l.items)) ≡ list_any (λ (w : List ℕ). list_any test (touched_items (setting_of l.bench).script w (setting_of l.bench).limit)) l.bench.words
