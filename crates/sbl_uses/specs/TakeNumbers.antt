-- The numbers of words that are kept for strings of amongs.
use Rattle.std.specs.Prelude.{ℕ, Bool, List, if◌then◌else◌}
use Rattle.std.specs.BTreeMap.{BTreeMap}
use Rattle.std.specs.Map.{lookup}
use Rattle.std.specs.Option.{unwrap_or}
use Rattle.sbl_uses.specs.Used.{Take, same_take}
use Rattle.sbl_uses.specs.UnusedViews.{Key, take_of}

-- the number that entries have for a string of an among; 0 if they have none
abbrev pub number_in : List (Key × ℕ) → Take → ℕ
number_in entries t = unwrap_or (lookup (λ (k : Key). same_take t (take_of k)) entries) 0

abbrev pub number_of : BTreeMap Key ℕ → Take → ℕ
number_of counts t = number_in counts.entries t

abbrev pub one_if : Bool → ℕ
one_if b = if b then 1 else 0
