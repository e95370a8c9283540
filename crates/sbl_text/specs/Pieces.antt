-- The pieces of a text: a piece is one token, one comment or one white space character.
use Rattle.std.specs.Prelude.{◌≡◌, ℕ, ◌≤◌, Bool, true, false, not, ◌||◌, ◌==◌, if◌then◌else◌, List, [], ◌∷◌, ◌++◌, length, Option}
use Rattle.std.specs.List.{list_all, list_any}
use Rattle.std.specs.Char.{is_ascii_alphabetic, is_ascii_digit}
use denote.Enum.Bare.{sameb}
use Rattle.sbl_token.specs.declared.signs.Sign.{Sign}
use Rattle.sbl_text.specs.contracts.pieces.Shape as shapes
use Rattle.sbl_text.specs.declared.pieces.Shape.{Shape}
use Rattle.sbl_text.specs.declared.pieces.Shape.TheVariants as shape
use Rattle.sbl_text.specs.declared.escapes.Inserts.{Inserts}
use Rattle.sbl_text.specs.Classes.{is_white, is_word, line_feed, quote, slash, star}
use Rattle.sbl_text.specs.declared.pieces.Expectation.{Expectation}
use Rattle.sbl_text.specs.declared.pieces.Expectation.TheVariants as wanted
use Rattle.sbl_token.specs.Signs.{sign_text}
use Rattle.sbl_text.specs.Escapes.{opens, closes}

-- The text may come between the quotes of a literal. `inside`: an insertion has begun.
abbrev pub is_inner : Option Inserts → Bool → List ℕ → Bool
is_inner e inside [] = not inside
is_inner e true (c ∷ cs) = is_inner e (not (closes e c)) cs
is_inner e false (c ∷ cs) = if c == quote || c == line_feed then false else is_inner e (opens e c) cs

abbrev pub is_one_of : List Shape → Shape → Bool
is_one_of ks k = list_any (sameb shapes.the_type k) ks

-- the texts of each shape
abbrev pub Has : Option Inserts → Shape → List ℕ → Type 0
Has e shape.Blank x = (c : ℕ) × (x ≡ c ∷ []) × (is_white c ≡ true)
Has e shape.LineComment x = (inner : List ℕ) × (x ≡ slash ∷ slash ∷ inner) × (list_all (λ c. not (c == line_feed)) inner ≡ true)
Has e shape.BlockComment x =
    (inner : List ℕ) × (x ≡ slash ∷ star ∷ (inner ++ star ∷ slash ∷ [])) × ((a b : List ℕ) → inner ≡ a ++ star ∷ slash ∷ b → ⊥)
Has e shape.Word x = (c : ℕ) × (cs : List ℕ) × (x ≡ c ∷ cs) × (is_ascii_alphabetic c ≡ true) × (list_all is_word cs ≡ true)
Has e shape.Number x = (c : ℕ) × (cs : List ℕ) × (x ≡ c ∷ cs) × (is_ascii_digit c ≡ true) × (list_all is_ascii_digit cs ≡ true)
Has e shape.Sign x = (s : Sign) × (x ≡ sign_text s)
Has e shape.Literal x = (inner : List ℕ) × (x ≡ quote ∷ (inner ++ quote ∷ [])) × (is_inner e false inner ≡ true)
Has e shape.Inserts x = (a : ℕ) × (b : ℕ) × (x ≡ a ∷ b ∷ []) × (a == quote ≡ false) × (is_white a ≡ false) × (is_white b ≡ false)
Has e shape.MacroName x = (c : ℕ) × (cs : List ℕ) × (x ≡ c ∷ cs) × (is_white c ≡ false) × (list_all (λ d. not (is_white d)) cs ≡ true)

-- the shapes that may come: after a word that requires insert characters or a macro's name, only those and white space
abbrev pub may_come : Expectation → Shape → Bool
may_come wanted.Inserts k = is_one_of (shape.Blank ∷ shape.Inserts ∷ []) k
may_come wanted.MacroName k = is_one_of (shape.Blank ∷ shape.MacroName ∷ []) k
may_come wanted.Token k = not (is_one_of (shape.Inserts ∷ shape.MacroName ∷ []) k)

-- the insert characters in force, and what may come
pub record Setting : Type 0 where
  pub inserts : Option Inserts
  pub wanted : Expectation

abbrev pub BeginsComment : List ℕ → Type 0
BeginsComment text = (c : ℕ) × (more : List ℕ) × (text ≡ slash ∷ c ∷ more) × (c == slash || c == star ≡ true)

-- The text x has the shape k, may come, and is followed by the rest. If a comment begins here, x is not a sign.
pub record Stands (e : Setting) (k : Shape) (x rest : List ℕ) : Type 0 where
  pub has : Has e.inserts k x
  pub comes : may_come e.wanted k ≡ true
  pub no_comment : k ≡ shape.Sign → BeginsComment (x ++ rest) → ⊥

-- x is the longest such text
pub record IsPiece (e : Setting) (k : Shape) (x rest : List ℕ) : Type 0 where
  pub stands : Stands e k x rest
  pub longest : (j : Shape) (y more : List ℕ) → x ++ rest ≡ y ++ more → Stands e j y more → length y ≤ length x

-- the text does not begin with a piece
abbrev pub NoPiece : Setting → List ℕ → Type 0
NoPiece e text = (j : Shape) (y more : List ℕ) → text ≡ y ++ more → Stands e j y more → ⊥

-- white space and comments
abbrev pub is_gap : Shape → Bool
is_gap k = is_one_of (shape.Blank ∷ shape.LineComment ∷ shape.BlockComment ∷ []) k

pub record Gap : Type 0 where
  pub shape : Shape
  pub text : List ℕ

-- only these pieces of white space and comments are before the rest
abbrev pub AreGaps : Setting → List ℕ → List Gap → List ℕ → Type 0
AreGaps e text [] rest = text ≡ rest
AreGaps e text (g ∷ gs) rest =
    (following : List ℕ) × (text ≡ g.text ++ following) × IsPiece e g.shape g.text following × (is_gap g.shape ≡ true) × AreGaps e following gs rest

abbrev pub AfterGaps : Setting → List ℕ → List ℕ → Type 0
AfterGaps e text rest = (gs : List Gap) × AreGaps e text gs rest
