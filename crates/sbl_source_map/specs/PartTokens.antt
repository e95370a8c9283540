-- The tokens of a part of a script, and the text cut before the first of them and after the last. A text has parts if it has
-- tokens, whether or not they form a tree.
use Rattle.std.specs.Prelude.{◌≡◌, ◌⊎◌, ℕ, ◌+◌, ◌-◌, nat_eq, nat_le, Bool, true, false, not, ◌&&◌, if◌then◌else◌}
use Rattle.std.specs.Prelude.{List, [], ◌∷◌, ◌++◌, length, Option, Some, None, option_and_then}
use Rattle.std.specs.Option.{option_map, option_or}
use Rattle.std.specs.Str.{bytes_eq, chars}
use Rattle.sbl_token.specs.declared.words.Word.TheVariants as words
use Rattle.sbl_token.specs.declared.signs.Sign.TheVariants as signs
use Rattle.sbl_token.specs.Lexemes.{Lexeme, word, sign}
use Rattle.sbl_text.specs.Tokens.{PlacedToken, ArePlaced}
use Rattle.sbl_ast.specs.NamedParts.{Part', Among, Routine, Grouping}
use Rattle.sbl_source_map.specs.ItemWords.{begins_item}
use Rattle.sbl_source_map.specs.SubjectTokens.{is_among}
use Rattle.sbl_source_map.specs.declared.parts.Excerpt.{Excerpt}

abbrev pub is_define : Lexeme → Bool
is_define (word words.Define) = true
is_define _ = false

abbrev pub is_as : Lexeme → Bool
is_as (word words.As) = true
is_as _ = false

abbrev pub closes : Lexeme → Bool
closes (sign signs.Close) = true
closes _ = false

-- a word that begins an item, or the parenthesis that ends a `backwardmode`
abbrev pub ends_item : Lexeme → Bool
ends_item (word w) = begins_item w
ends_item l = closes l

-- how many parentheses are open after a token
abbrev pub depth_after : Lexeme → ℕ → ℕ
depth_after (sign signs.Open) depth = depth + 1
depth_after (sign signs.Close) depth = depth - 1
depth_after _ depth = depth

-- the tokens up to the end of the item, outside parentheses
abbrev pub until_end : ℕ → List PlacedToken → List PlacedToken
until_end depth [] = []
until_end depth (t ∷ ts) = if nat_eq depth 0 && ends_item t.lexeme then [] else t ∷ until_end (depth_after t.lexeme depth) ts

-- What follows `define NAME as`, if a routine is wanted; otherwise what follows `define NAME`, if that is no `as`.
abbrev pub after_head : Bool → List ℕ → List PlacedToken → Option (List PlacedToken)
after_head true name (d ∷ n ∷ a ∷ ts) = if is_define d.lexeme && (bytes_eq n.text name && is_as a.lexeme) then Some ts else None
after_head false name (d ∷ n ∷ t ∷ ts) = if is_define d.lexeme && (bytes_eq n.text name && not (is_as t.lexeme)) then Some (t ∷ ts) else None
after_head is_routine name _ = None

-- the same at the first place at which the tokens go on so
abbrev pub after_first_head : Bool → List ℕ → List PlacedToken → Option (List PlacedToken)
after_first_head is_routine name [] = None
after_first_head is_routine name (t ∷ ts) = option_or (after_head is_routine name (t ∷ ts)) (after_first_head is_routine name ts)

-- the body of the first routine with this name, or the terms of the first grouping
abbrev pub definition_tokens : Bool → List ℕ → List PlacedToken → Option (List PlacedToken)
definition_tokens is_routine name ts = option_map (until_end 0) (after_first_head is_routine name ts)

-- the tokens from the k-th word `among` on, counted from 1
abbrev pub from_among : ℕ → List PlacedToken → Option (List PlacedToken)
from_among k [] = None
from_among k (t ∷ ts) = if is_among t.lexeme then (if nat_eq k 1 then Some (t ∷ ts) else from_among (k - 1) ts) else from_among k ts

-- the tokens up to the parenthesis that closes the first one
abbrev pub until_closed : ℕ → List PlacedToken → List PlacedToken
until_closed depth [] = []
until_closed depth (t ∷ ts) = t ∷ (if closes t.lexeme && nat_le depth 1 then [] else until_closed (depth_after t.lexeme depth) ts)

-- the tokens of a part: of a body, of the k-th among of a body, or of a grouping's terms
abbrev pub part_tokens : Part' → List PlacedToken → Option (List PlacedToken)
part_tokens (Routine name) ts = definition_tokens true name ts
part_tokens (Among name k) ts = option_and_then (λ ds. option_map (until_closed 0) (from_among k ds)) (definition_tokens true name ts)
part_tokens (Grouping name) ts = definition_tokens false name ts

-- ---- the text

abbrev pub last_end : PlacedToken → List PlacedToken → ℕ
last_end t [] = t.end
last_end t (u ∷ us) = last_end u us

-- where the first of some tokens begins, and where the last of them ends
abbrev pub range_of : List PlacedToken → Option (ℕ × ℕ)
range_of [] = None
range_of (t ∷ ts) = Some (t.start, last_end t ts)

abbrev pub range_of_part : Part' → List PlacedToken → Option (ℕ × ℕ)
range_of_part what ts = option_and_then range_of (part_tokens what ts)

-- the text in three pieces, cut at these two bytes
pub record IsCutAt (text : List ℕ) (begin end : ℕ) (cut : Excerpt) : Type 0 where
  pub whole : text ≡ cut.before.now ++ cut.part.now ++ cut.after.now
  pub begins : length cut.before.now ≡ begin
  pub ends : begin + length cut.part.now ≡ end

-- the text cut at this range; none if there is no range
abbrev pub IsCutAtRange : List ℕ → Option (ℕ × ℕ) → Option Excerpt → Type 0
IsCutAtRange text None cut = cut ≡ None
IsCutAtRange text (Some r) cut = (c : Excerpt) × (cut ≡ Some c) × IsCutAt text r.0 r.1 c

-- the text cut at a part of its tokens; none if it has no tokens, or if these have no such part
abbrev pub IsCutAtPart : Part' → List ℕ → Option Excerpt → Type 0
IsCutAtPart what text cut =
    ((ts : List PlacedToken) × ArePlaced (chars text) ts × IsCutAtRange text (range_of_part what ts) cut)
    ⊎ (((ts : List PlacedToken) → ArePlaced (chars text) ts → ⊥) × (cut ≡ None))
