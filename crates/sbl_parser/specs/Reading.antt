-- The specification of parsing, as a condition on all trees.
use Rattle.std.specs.Prelude.{◌≡◌, ℕ, ◌<◌, List, [], ◌∷◌, ◌++◌}
use Rattle.sbl_token.specs.Lexemes.{Lexeme, sign, name}
use Rattle.sbl_token.specs.declared.signs.Sign.TheVariants as signs
use Rattle.sbl_ast.specs.Texts.{Text, TreeOf, places_in, tokens_of}
use Rattle.sbl_ast.specs.Places.{AreShallow, AtDepth, tokens, max_depth}

-- these tokens are a prefix of the tokens of a tree
abbrev pub IsPrefix : Text → List Lexeme → Type 0
IsPrefix t before = (tree : TreeOf t) × (rest : List Lexeme) × (tokens_of t tree ≡ before ++ rest)

-- the token after these tokens is too deep, in a tree whose tokens begin with both
abbrev pub IsTooDeep : Text → List Lexeme → Lexeme → Type 0
IsTooDeep t before x = (tree : TreeOf t) × (prefix : List AtDepth) × (depth : ℕ) × (rest : List AtDepth)
    × (places_in t tree ≡ prefix ++ (x, depth) ∷ rest) × (tokens prefix ≡ before) × (max_depth < depth)

-- none of these tokens is too deep
abbrev pub HasNoneTooDeep : Text → List Lexeme → Type 0
HasNoneTooDeep t before = (b c : List Lexeme) (x : Lexeme) → before ≡ b ++ x ∷ c → IsTooDeep t b x → ⊥

-- these are the tokens of the tree, and none is too deep
abbrev pub IsReadAs : (t : Text) → List Lexeme → TreeOf t → Type 0
IsReadAs t all tree = (tokens_of t tree ≡ all) × AreShallow (places_in t tree)

-- the first token of the rest cannot follow those before it; if the rest is empty, more tokens are needed
abbrev pub CannotFollow : Text → List Lexeme → List Lexeme → Type 0
CannotFollow t before [] = (tree : TreeOf t) → tokens_of t tree ≡ before → ⊥
CannotFollow t before (x ∷ more) = IsPrefix t (before ++ x ∷ []) → ⊥

-- the tokens before are a prefix of a tree and not too deep, and the rest cannot follow
abbrev pub StopsAt : Text → List Lexeme → List Lexeme → Type 0
StopsAt t before rest = IsPrefix t before × HasNoneTooDeep t before × CannotFollow t before rest

-- after `$` and a name the tokens end: if there were more, an operator would be missing
abbrev pub IsSyntaxAt : Text → List Lexeme → List Lexeme → Type 0
IsSyntaxAt t all rest = (before : List Lexeme) × (all ≡ before ++ rest) × StopsAt t before rest
    × ((prefix : List Lexeme) (n : List ℕ) → before ≡ prefix ++ sign signs.Dollar ∷ name n ∷ [] → rest ≡ [])

-- the first token of the rest is too deep, and none before it
abbrev pub IsTooDeepAt : Text → List Lexeme → List Lexeme → Type 0
IsTooDeepAt t all rest = (before : List Lexeme) × (first : Lexeme) × (more : List Lexeme) × (rest ≡ first ∷ more) × (all ≡ before ++ rest)
    × HasNoneTooDeep t before × IsTooDeep t before first

-- the rest begins with the `$` and the name before the token that is not an operator
abbrev pub IsOutOfProfileAt : Text → List Lexeme → List Lexeme → Type 0
IsOutOfProfileAt t all rest = (before : List Lexeme) × (subject : List ℕ) × (bad : Lexeme) × (more : List Lexeme)
    × (rest ≡ sign signs.Dollar ∷ name subject ∷ bad ∷ more) × (all ≡ before ++ rest)
    × StopsAt t (before ++ sign signs.Dollar ∷ name subject ∷ []) (bad ∷ more)
