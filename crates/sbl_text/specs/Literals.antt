-- The characters that the spelling of a literal means.
use Rattle.std.specs.Prelude.{◌≡◌, ◌⊎◌, ℕ, ◌+◌, Bool, true, false, not, ◌&&◌, ◌||◌, ◌==◌, if◌then◌else◌, List, []}
use Rattle.std.specs.Prelude.{◌∷◌, ◌++◌, length, encode_utf8_all, flat_map, Option, ok_or, Result, Ok, Err}
use Rattle.std.specs.List.{list_all}
use Rattle.std.specs.Option.{option_map_or}
use Rattle.std.specs.Result.{result_map_both}
use Rattle.sbl_text.specs.declared.escapes.Inserts.{Inserts}
use Rattle.sbl_text.specs.declared.fault.ScriptFault.{ScriptFault}
use Rattle.sbl_text.specs.declared.fault.ScriptFault.TheVariants as fault
use Rattle.sbl_text.specs.Classes.{is_white, line_feed, quote}
use Rattle.sbl_text.specs.Codes.{code_of}
use Rattle.sbl_text.specs.Escapes.{InForce, opens, closes, find}

-- the length of a text in UTF-8 bytes
abbrev pub byte_length : List ℕ → ℕ
byte_length text = length (encode_utf8_all text)

-- ---- the name in an insertion

-- a quote, the opening insert character, or `U+` and 1 to 6 hexadecimal digits; otherwise the fault, given its byte offset
abbrev pub character_named : Option Inserts → List ℕ → Result ℕ (ℕ → ScriptFault)
character_named e [] = Err fault.UnknownEscape
character_named e (c ∷ []) = if c == quote || opens e c then Ok c else Err fault.UnknownEscape
character_named e (c ∷ d ∷ cs) = if c == 85 && d == 43 then ok_or (code_of 16 6 cs) fault.BadCode else Err fault.UnknownEscape

-- The value of an insertion: nothing for white space, the value of a macro, otherwise the character that is named.
abbrev pub insertion_value : InForce → List ℕ → Result (List ℕ) (ℕ → ScriptFault)
insertion_value e name =
    if list_all is_white name then Ok []
    else option_map_or Ok (find e.macros name) (result_map_both (λ c. c ∷ []) (λ f. f) (character_named e.inserts name))

-- ---- parts of a spelling

-- an opening character, a name without a closing character, and a closing character
abbrev pub IsInsertion : InForce → List ℕ → List ℕ → Type 0
IsInsertion e x name = (a : ℕ) × (b : ℕ) × (x ≡ a ∷ (name ++ b ∷ []))
    × (a == quote ≡ false) × (opens e.inserts a ≡ true) × (closes e.inserts b ≡ true) × (list_all (λ c. not (closes e.inserts c)) name ≡ true)

-- a character that means itself
abbrev pub IsPlain : InForce → List ℕ → List ℕ → Type 0
IsPlain e x v = (c : ℕ) × (x ≡ c ∷ []) × (c == quote ≡ false) × (opens e.inserts c ≡ false) × (v ≡ c ∷ [])

pub record Part : Type 0 where
  pub text : List ℕ
  pub value : List ℕ

abbrev pub IsPart : InForce → Part → Type 0
IsPart e p = IsPlain e p.text p.value ⊎ ((name : List ℕ) × IsInsertion e p.text name × (insertion_value e name ≡ Ok p.value))

-- the spelling begins with these parts, one after another, and the rest follows
abbrev pub AreParts : InForce → List ℕ → List Part → List ℕ → Type 0
AreParts e text [] rest = text ≡ rest
AreParts e text (p ∷ ps) rest = (following : List ℕ) × (text ≡ p.text ++ following) × IsPart e p × AreParts e following ps rest

-- the spelling means these characters
abbrev pub Means : InForce → List ℕ → List ℕ → Type 0
Means e spelling v = (ps : List Part) × AreParts e spelling ps [] × (v ≡ flat_map (λ p. p.value) ps)

-- a quote that ends the literal too early, or an insertion that has no value
abbrev pub IsWrong : InForce → List ℕ → ℕ → ScriptFault → Type 0
IsWrong e text place f =
    ((more : List ℕ) × (text ≡ quote ∷ more) × (f ≡ fault.BadCharacter place))
    ⊎ ((x : List ℕ) × (name : List ℕ) × (more : List ℕ) × (text ≡ x ++ more) × IsInsertion e x name
    × (g : ℕ → ScriptFault) × (insertion_value e name ≡ Err g) × (f ≡ g place))

-- the first fault of a spelling that begins at this byte offset
abbrev pub FirstWrong : InForce → List ℕ → ℕ → ScriptFault → Type 0
FirstWrong e spelling place f = (before : List ℕ) × (rest : List ℕ) × (ps : List Part) × (spelling ≡ before ++ rest)
    × AreParts e spelling ps rest × IsWrong e rest (place + byte_length before) f

-- each insertion has an end, and there is no line feed outside of insertions
abbrev pub is_closed : Option Inserts → Bool → List ℕ → Bool
is_closed e inside [] = not inside
is_closed e true (c ∷ cs) = is_closed e (not (closes e c)) cs
is_closed e false (c ∷ cs) = if c == quote then is_closed e false cs else (if c == line_feed then false else is_closed e (opens e c) cs)

-- the result for a spelling without its quotes
abbrev pub IsLiteral : InForce → List ℕ → Result (List ℕ) ScriptFault → Type 0
IsLiteral e spelling (Ok v) = (is_closed e.inserts false spelling ≡ true) × Means e spelling v
IsLiteral e spelling (Err f) =
    ((is_closed e.inserts false spelling ≡ false) × (f ≡ fault.UnclosedString 0))
    ⊎ ((is_closed e.inserts false spelling ≡ true) × FirstWrong e spelling 0 f)
