-- What the functions inside the crate keep, without memory addresses.
use Rattle.std.specs.Prelude.{◌≡◌, ℕ, ◌+◌, ◌≤◌, ◌++◌, List, length, reverse, take}
use Rattle.std.specs.List.{count_by}
use Rattle.sbl_source_map.specs.Positions.{begins_character, is_line_feed, last_line}
use Rattle.sbl_text_rows.specs.PlaceRows.{Context}
use Rattle.sbl_text_rows.specs.declared.places.Rows.{Rows}
use Rattle.sbl_text_rows.specs.declared.rulers.Ruler.{Ruler}
use Rattle.sbl_text_rows.specs.declared.walks.Walk.{Walk}

abbrev pub context_of : Walk → Context
context_of w = record {
  name = w.name.now;
  amongs = w.amongs;
  brackets = reverse w.open.items;
  follows_define = w.follows_define;
  follows_among = w.follows_among;
  is_declared = w.is_declared;
}

-- the line of a byte offset in a text, which is not after its end
abbrev pub line_at : List ℕ → ℕ → ℕ
line_at text offset = count_by is_line_feed (take offset text) + 1

-- its column
abbrev pub column_at : List ℕ → ℕ → ℕ
column_at text offset = count_by begins_character (last_line (take offset text)) + 1

-- what a ruler keeps is right
pub record Measures (r : Ruler) : Type 0 where
  pub inside : r.offset ≤ length r.text.now
  pub line : r.position.line ≡ line_at r.text.now r.offset
  pub column : r.position.column ≡ column_at r.text.now r.offset

-- the rows have this text after that of before, and nothing else has changed but where the ruler is
pub record TakesLine (old new : Rows) (line : List ℕ) : Type 0 where
  pub out : new.out.items ≡ old.out.items ++ line
  pub measures : Measures new.ruler
  pub same_text : new.ruler.text.now ≡ old.ruler.text.now
  pub same_walk : context_of new.walk ≡ context_of old.walk
