-- The rows of what is in the text of a script, with the places.
use Rattle.std.specs.Prelude.{◌≡◌, ◌⊎◌, ℕ, ◌+◌, nat_eq, Bool, true, false, if◌then◌else◌, List, [], ◌∷◌, ◌++◌, codes, decimal, drop}
use Rattle.std.specs.Prelude.{encode_utf8_all, Option, Some, None}
use Rattle.std.specs.Str.{chars}
use Rattle.sbl_token.specs.declared.words.Word.{Word}
use Rattle.sbl_token.specs.declared.words.Word.TheVariants as words
use Rattle.sbl_token.specs.declared.signs.Sign.TheVariants as signs
use Rattle.sbl_token.specs.Lexemes.{Lexeme, word, sign, name, literal}
use Rattle.sbl_text.specs.Tokens.{PlacedToken, ArePlaced}
use Rattle.sbl_source_map.specs.PartTokens.{is_as, is_define, until_closed, until_end}
use Rattle.sbl_source_map.specs.Positions.{column_of, line_of}
use Rattle.sbl_source_map.specs.SubjectTokens.{is_among}
use Rattle.sbl_text_rows.specs.Rows.{line_if}

-- ---- what the tokens before a place say of the token there

pub record Context : Type 0 where
  -- the name of the definition that was begun last, and how many words `among` it has so far
  pub name : List ℕ
  pub amongs : ℕ
  -- for each open parenthesis, the innermost first, the number of the among that it is one of; 0 for another one
  pub brackets : List ℕ
  -- the token is right after `define`, right after `among`, or in a declaration
  pub follows_define : Bool
  pub follows_among : Bool
  pub is_declared : Bool

abbrev pub beginning : Context
beginning = record { name = []; amongs = 0; brackets = []; follows_define = false; follows_among = false; is_declared = false }

-- the words that declare names
abbrev pub declares : Word → Bool
declares words.Booleans = true
declares words.Externals = true
declares words.Groupings = true
declares words.Integers = true
declares words.Routines = true
declares words.Strings = true
declares _ = false

-- a declaration goes from its word to the next parenthesis that closes
abbrev pub declared_after : Bool → Lexeme → Bool
declared_after b (word w) = declares w
declared_after b (sign signs.Close) = false
declared_after b _ = b

abbrev pub brackets_after : Context → Lexeme → List ℕ
brackets_after c (sign signs.Open) = (if c.follows_among then c.amongs else 0) ∷ c.brackets
brackets_after c (sign signs.Close) = drop 1 c.brackets
brackets_after c _ = c.brackets

abbrev pub amongs_after : Context → Lexeme → ℕ
amongs_after c l = if c.follows_define then 0 else (if is_among l then c.amongs + 1 else c.amongs)

abbrev pub name_after : Context → List ℕ → List ℕ
name_after c text = if c.follows_define then text else c.name

-- the context after a token
abbrev pub after : Context → PlacedToken → Context
after c t = record {
  name = name_after c t.text;
  amongs = amongs_after c t.lexeme;
  brackets = brackets_after c t.lexeme;
  follows_define = is_define t.lexeme;
  follows_among = is_among t.lexeme;
  is_declared = declared_after c.is_declared t.lexeme;
}

-- the among whose parentheses are the innermost open ones; 0 if they are not an among's
abbrev pub innermost : List ℕ → ℕ
innermost [] = 0
innermost (k ∷ ks) = k

-- ---- the row of a token

-- the two ends of what a row is about, and the line and the column of the first
abbrev pub place_fields : List ℕ → ℕ → ℕ → List (List ℕ)
place_fields text from to = decimal from ∷ decimal to ∷ decimal (line_of text from) ∷ decimal (column_of text from) ∷ []

-- where the last of these tokens ends, if there is one
abbrev pub end_after : ℕ → List PlacedToken → ℕ
end_after n [] = n
end_after n (t ∷ ts) = end_after t.end ts

abbrev pub definition_kind : Lexeme → List ℕ
definition_kind l = if is_as l then codes "routine" else codes "grouping"

-- a definition, given its first token and those after it: up to its last token
abbrev pub definition_row : List ℕ → PlacedToken → List PlacedToken → Option (List (List ℕ))
definition_row text t (n ∷ a ∷ ts) = Some (definition_kind a.lexeme ∷ n.text ∷ place_fields text t.start (end_after t.end (until_end 0 (n ∷ a ∷ ts))))
definition_row text t _ = None

-- an among: up to the parenthesis that closes its strings
unfoldable pub among_row : List ℕ → Context → PlacedToken → List PlacedToken → List (List ℕ)
among_row text c t ts = codes "among" ∷ c.name ∷ decimal (c.amongs + 1) ∷ place_fields text t.start (end_after t.end (until_closed 0 ts))

-- a string of the among with this number
unfoldable pub entry_row : List ℕ → Context → PlacedToken → List ℕ → ℕ → List (List ℕ)
entry_row text c t characters k = codes "entry" ∷ c.name ∷ decimal k ∷ encode_utf8_all characters ∷ place_fields text t.start t.end

-- a literal has a row if it is such a string
abbrev pub string_row : List ℕ → Context → PlacedToken → List ℕ → ℕ → Option (List (List ℕ))
string_row text c t characters k = if nat_eq k 0 then None else Some (entry_row text c t characters k)

-- what a name is there for
abbrev pub role_field : Context → List ℕ
role_field c = if c.is_declared then codes "declared" else (if c.follows_define then codes "defined" else codes "used")

unfoldable pub name_row : List ℕ → Context → PlacedToken → List (List ℕ)
name_row text c t = codes "name" ∷ t.text ∷ role_field c ∷ place_fields text t.start t.end

-- the row of a token, given those after it
abbrev pub row_at : List ℕ → Context → PlacedToken → List PlacedToken → Lexeme → Option (List (List ℕ))
row_at text c t ts (word words.Define) = definition_row text t ts
row_at text c t ts (word words.Among) = Some (among_row text c t ts)
row_at text c t ts (literal spelling characters) = string_row text c t characters (innermost c.brackets)
row_at text c t ts (name n) = Some (name_row text c t)
row_at text c t ts _ = None

-- ---- the rows of a text

-- the lines of the rows of tokens, the first of which has this context
abbrev pub lines_after : List ℕ → Context → List PlacedToken → List ℕ
lines_after text c [] = []
lines_after text c (t ∷ ts) = line_if (row_at text c t ts t.lexeme) ++ lines_after text (after c t) ts

-- the rows of what is in a text, if it has tokens
abbrev pub IsPlacesText : List ℕ → List ℕ → Type 0
IsPlacesText text report =
    ((ts : List PlacedToken) × ArePlaced (chars text) ts × (report ≡ lines_after text beginning ts))
    ⊎ (((ts : List PlacedToken) → ArePlaced (chars text) ts → ⊥) × (report ≡ []))
