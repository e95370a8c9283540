use Rattle.std.proofs.Common.{◌≡◌, ℕ, List, true, false, drop, map}
use Rattle.std.specs.List.{list_any}
use Rattle.sbl_bench.specs.KeptRuns.{setting_of}
use Rattle.sbl_bench.specs.Vocabulary.{is_word}
use Rattle.sbl_machine.specs.BuiltFrom.{meets}
use Rattle.sbl_semantics.specs.TouchedItems.{item_of}
use Rattle.sbl_ast.specs.NamedParts.{Part'}
use Rattle.sbl_explain.specs.Kept.{HasItems, is_one_of}
use Rattle.sbl_explain.proofs.kept_takes.words_meeting.Given as goal

-- of a word that is not there, only the items still to come can be met
abbrev pub invariant-loop-item : goal.invariant-loop-item
invariant-loop-item l =
    HasItems l.bench l.items
    → (w : List ℕ) → is_word w l.bench.words ≡ true → is_one_of l.words w ≡ false
    → list_any (λ (x : Part'). meets x (setting_of l.bench).script w (setting_of l.bench).limit) (map item_of (drop l.item-index l.items))
    ≡ list_any (λ (x : Part'). meets x (setting_of l.bench).script w (setting_of l.bench).limit) (map item_of l.items)
