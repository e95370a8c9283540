-- A text for a part of a script that begins as a definition of that part does.
use Rattle.std.specs.Prelude.{◌≡◌, ◌⊎◌, ℕ, List, [], ◌∷◌, codes, encode_utf8_all, Option, Some, None, Ok}
use Rattle.std.specs.Str.{chars}
use Rattle.sbl_token.specs.declared.token.Token.{Token}
use Rattle.sbl_ast.specs.NamedParts.{Part', Among, Routine, Grouping}
use Rattle.sbl_text.specs.Directives.{Directives, start}
use Rattle.sbl_text.specs.Tokens.{Advances, Stops}
use Rattle.sbl_text.specs.declared.fault.ScriptFault.{ScriptFault}

-- the words that a definition begins with; an among has none
abbrev pub head_of : Part' → Option (List (List ℕ))
head_of (Routine name) = Some (codes "define" ∷ name ∷ codes "as" ∷ [])
head_of (Grouping name) = Some (codes "define" ∷ name ∷ [])
head_of (Among name k) = None

-- the next token of a text, and the state and the text after it; none at the end of the text, or at a fault of it
abbrev pub IsNextToken : List ℕ → Directives → List ℕ → Directives → List ℕ → Option Token → Type 0
IsNextToken text s from t rest (Some token) = Advances text s from t rest (Ok (Some token))
IsNextToken text s from t rest None = Advances text s from t rest (Ok None) ⊎ ((f : ScriptFault) × Stops text s from f)

-- if the token is this word, this more holds; otherwise nothing follows
abbrev pub GoesOn : Option Token → List ℕ → Type 0 → Option (List ℕ) → Type 0
GoesOn None word more after = after ≡ None
GoesOn (Some token) word more after = ((token.text.now ≡ word) × more) ⊎ (¬ (token.text.now ≡ word) × (after ≡ None))

-- what follows these words, if they are the next tokens of a text; none if they are not
abbrev pub Follows : List ℕ → Directives → List ℕ → List (List ℕ) → Option (List ℕ) → Type 0
Follows text s from [] after = after ≡ Some from
Follows text s from (word ∷ words) after =
    (t : Directives) × (rest : List ℕ) × (next : Option Token) × IsNextToken text s from t rest next
    × GoesOn next word (Follows text t rest words after) after

-- the characters that follow, or the whole text if there are none
abbrev pub bytes_or : List ℕ → Option (List ℕ) → List ℕ
bytes_or text None = text
bytes_or text (Some from) = encode_utf8_all from

-- a text without these words, if they are its first tokens
abbrev pub IsWithout : Option (List (List ℕ)) → List ℕ → List ℕ → Type 0
IsWithout None text rest = rest ≡ text
IsWithout (Some words) text rest = (after : Option (List ℕ)) × Follows (chars text) start (chars text) words after × (rest ≡ bytes_or text after)

-- A text for a part of a script, without the beginning of a definition: `define NAME as` of a routine, `define NAME` of a
-- grouping.
abbrev pub IsWithoutHead : Part' → List ℕ → List ℕ → Type 0
IsWithoutHead what text rest = IsWithout (head_of what) text rest
