-- The marks beside the touches of a run. Each run is a round, and a mark is the round in which its touch was made last.
use Rattle.std.specs.Prelude.{◌≡◌, ◌<◌, ◌≤◌, ℕ, List, [], nat_eq, slice_index_or}
use Rattle.std.specs.List.{list_any}
use Rattle.sbl_semantics.specs.declared.touch.Touch.{Touch}
use Rattle.sbl_semantics.specs.declared.touch.Touch.TheVariants.{Entered, Searched, Tested}
use Rattle.sbl_semantics.specs.Touches.{same_touch}

-- a mark; 0, which is no round, past the end
abbrev pub mark_at : List ℕ → ℕ → ℕ
mark_at marks i = slice_index_or marks i 0

-- a mark of a row
abbrev pub mark_in : List (List ℕ) → ℕ → ℕ → ℕ
mark_in rows i k = mark_at (slice_index_or rows i []) k

-- a mark is of this round if its touch is one of these, and no mark is of a later round
pub record AreMarked (round : ℕ) (touches : List Touch) (entered : List ℕ) (searched : List (List ℕ)) (tested : List ℕ) : Type 0 where
  pub begun : 0 < round
  pub routines : (i : ℕ) → nat_eq (mark_at entered i) round ≡ list_any (same_touch (Entered i)) touches
  pub amongs : (i k : ℕ) → nat_eq (mark_in searched i k) round ≡ list_any (same_touch (Searched i k)) touches
  pub groupings : (g : ℕ) → nat_eq (mark_at tested g) round ≡ list_any (same_touch (Tested g)) touches
  pub entered_by_now : (i : ℕ) → mark_at entered i ≤ round
  pub searched_by_now : (i k : ℕ) → mark_in searched i k ≤ round
  pub tested_by_now : (g : ℕ) → mark_at tested g ≤ round
