-- The words that a change of the setting can affect, by their runs.
use Rattle.std.specs.Prelude.{◌≡◌, ℕ, Bool, true, List, Option, Some, map, nat_le, nat_lt, if◌then◌else◌}
use Rattle.std.specs.List.{list_all, list_any}
use Rattle.sbl_semantics.specs.Outcome.{touches_of, used_of}
use Rattle.sbl_semantics.specs.Touches.{same_touch}
use Rattle.sbl_semantics.specs.declared.touch.Touch.{Touch}
use Rattle.sbl_semantics.specs.TouchedItems.{item_of, names_of}
use Rattle.sbl_ast.specs.NamedParts.{Part'}
use Rattle.sbl_semantics.specs.declared.item.Item.{Item}
use Rattle.sbl_machine.specs.Marks.{has_item}
pub use Rattle.sbl_semantics.specs.Differs.{differs}
pub use Rattle.sbl_machine.specs.MachineOf.{IsLinkedMachineOf}
pub use Rattle.sbl_script.specs.ParsedScript.{source_of}
use Rattle.sbl_ast.specs.Source.{Source}
use Rattle.sbl_bench.specs.inside.ProofNames.{meets_listed}
use Rattle.sbl_rows.specs.Setting.{Setting, under}

abbrev pub smaller : ℕ → ℕ → ℕ
smaller m n = if nat_le m n then m else n

-- the words whose run touches one of these, those whose run uses more than this number of steps, or all
pub data AffectedWords : Type 0 where
  Touching : List Touch → AffectedWords
  Above : ℕ → AffectedWords
  Every : AffectedWords

-- whether one of the touches is one of the marks
abbrev pub touches_one : List Touch → List Touch → Bool
touches_one marks touches = list_any (λ t. list_any (same_touch t) marks) touches

-- whether a run with these touches and this number of steps is affected
abbrev pub is_affected_run : AffectedWords → List Touch → ℕ → Bool
is_affected_run (Touching marks) touches used = touches_one marks touches
is_affected_run (Above n) touches used = nat_lt n used
is_affected_run Every touches used = true

-- whether a fresh run of the word is affected
abbrev pub is_affected : Setting → AffectedWords → List ℕ → Bool
is_affected s a word = is_affected_run a (touches_of s.script word s.limit) (used_of s.script word s.limit)

-- the script defines the routines and groupings of the items
abbrev pub Defines : Source → List Item → Type 0
Defines script items = list_all (has_item (names_of script)) (map item_of items) ≡ true

abbrev pub item_list : List Item → Option (List Part')
item_list items = Some (map item_of items)

-- under each limit, the words that are affected are those whose run meets one of the listed items, or all if there is no list
abbrev pub AreMet : Source → Option (List Part') → AffectedWords → Type 0
AreMet script items a = (limit : ℕ) (word : List ℕ) → meets_listed items script word limit ≡ is_affected (under script limit) a word
