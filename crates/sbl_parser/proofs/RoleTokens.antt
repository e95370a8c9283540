-- The token of a role.
use Rattle.std.proofs.Common.{◌≡◌, ℕ, ◌<◌, Bool, true, false, List, [], ◌∷◌, length, drop, Option, Some, None, is_some, ◌||◌, refl, sym, ap, ◌∙◌, arith}
use Rattle.sbl_token.specs.declared.words.Word.{Word}
use Rattle.sbl_token.specs.declared.words.Word.TheVariants as w
use Rattle.sbl_token.specs.declared.signs.Sign.{Sign}
use Rattle.sbl_token.specs.declared.signs.Sign.TheVariants as g
use Rattle.sbl_token.specs.declared.token.Kind.{Kind}
use Rattle.sbl_token.specs.declared.token.Kind.TheVariants as kinds
use Rattle.sbl_token.specs.declared.token.Value.{Value}
use Rattle.sbl_token.specs.declared.token.Token.{Token}
use Rattle.sbl_token.specs.Lexemes.{lexeme_by, number_in, inserts_in}
use Rattle.sbl_parser.specs.declared.role.Role.{Role}
use Rattle.sbl_parser.specs.declared.role.Role.TheVariants as roles
use Rattle.sbl_ast.specs.Terminal.{Terminal, terminal_of, terminals_of, word_terminal, sign_terminal}
use Rattle.sbl_parser.specs.Roles.{role_as, role_of}
use Rattle.sbl_ast.specs.Terminal as t
use Rattle.sbl_parser.specs.First.{first_text, first_number, first_inserts, first_literal, quoted_in}

abbrev Ts : Type 0
Ts = List Terminal

-- ---- the token of a role

abbrev undo : Role → Option Terminal
undo roles.Open = Some t.open_
undo roles.Close = Some t.close_
undo roles.Dollar = Some t.dollar
undo roles.As = Some t.as_
undo roles.For = Some t.for_
undo roles.Non = Some t.non
undo roles.Among = Some t.among
undo roles.Define = Some t.define
undo roles.BackwardMode = Some t.backward_mode
undo roles.SetLimit = Some t.set_limit
undo roles.StringDef = Some t.string_def
undo roles.StringEscapes = Some t.string_escapes
undo roles.LenOf = Some t.len_of
undo (roles.Declares o) = Some (t.declares o)
undo (roles.Base o) = Some (t.base o)
undo (roles.Joiner o) = Some (t.joiner o)
undo (roles.Simple o) = Some (t.simple o)
undo (roles.Prefix o) = Some (t.prefix o)
undo (roles.Count o) = Some (t.count o)
undo (roles.Move o) = Some (t.move o)
undo (roles.Naming o) = Some (t.naming o)
undo (roles.Splice o) = Some (t.edit o)
undo (roles.Additive o) = Some (t.additive o)
undo (roles.Multiplicative o) = Some (t.multiplicative o)
undo (roles.Assignment o) = Some (t.assigns o)
undo (roles.Comparison o) = Some (t.compares o)
undo (roles.Constant o) = Some (t.constant o)
undo _ = None

-- a token that its role determines
abbrev pub is_determined : Terminal → Bool
is_determined x = is_some (undo (role_as x))

undone : (x : Terminal) → is_determined x ≡ true → undo (role_as x) ≡ Some x
undone (t.name n) e = absurd cc
undone (t.number n) e = absurd cc
undone (t.literal q) e = absurd cc
undone (t.inserts a b) e = absurd cc
undone (t.macro_name n) e = absurd cc
undone (t.other o) e = absurd cc
undone _ e = refl

none_of : {X : Type 0} (o : Option X) → is_some o ≡ false → o ≡ None
none_of None e = refl
none_of (Some x) e = absurd cc

pub as_terminal : (ts : Ts) (x : Terminal) → is_determined x ≡ true → role_of ts ≡ role_as x → ts ≡ x ∷ drop 1 ts
as_terminal [] x d e = let f : None ≡ Some x = ap undo e ∙ undone x d in absurd cc
as_terminal (y ∷ ts) x d e = go (is_determined y) refl where
  go : (b : Bool) → is_determined y ≡ b → y ∷ ts ≡ x ∷ ts
  go true is = let f : Some y ≡ Some x = sym (undone y is) ∙ ap undo e ∙ undone x d in cc
  go false is = let f : None ≡ Some x = sym (none_of (undo (role_as y)) is) ∙ ap undo e ∙ undone x d in absurd cc

pub some_first : (ts : Ts) (r : Role) → role_of ts ≡ r → (r ≡ roles.End → ⊥) → 0 < length ts
some_first [] r e n = absurd (n (sym e))
some_first (x ∷ ts) r e n = omega arith

abbrev is_other : Role → Bool
is_other roles.Other = true
is_other _ = false

-- words and signs are determined or stand in no tree
abbrev plays_itself : Role → Bool
plays_itself r = is_other r || is_some (undo r)

word_plays : (v : Word) → plays_itself (role_as (word_terminal v)) ≡ true
word_plays w.Among = refl
word_plays _ = refl

sign_plays : (v : Sign) → plays_itself (role_as (sign_terminal v)) ≡ true
sign_plays g.Open = refl
sign_plays _ = refl

is_name : (k : Kind) (text : List ℕ) (v : Value) → role_as (terminal_of (lexeme_by k text v)) ≡ roles.Name → terminal_of (lexeme_by k text v) ≡ t.name text
is_name (kinds.Word x) text v e = let f : true ≡ false = sym (word_plays x) ∙ ap plays_itself e in absurd cc
is_name (kinds.Sign x) text v e = let f : true ≡ false = sym (sign_plays x) ∙ ap plays_itself e in absurd cc
is_name kinds.Name text v e = refl
is_name _ text v e = absurd cc

pub as_name : (ts : List Token) → role_of (terminals_of ts) ≡ roles.Name → terminals_of ts ≡ t.name (first_text ts) ∷ drop 1 (terminals_of ts)
as_name [] e = absurd cc
as_name (x ∷ ts) e = ap (λ (y : Terminal). y ∷ terminals_of ts) (is_name x.kind x.text.now x.value e)

is_number : (k : Kind) (text : List ℕ) (v : Value) → role_as (terminal_of (lexeme_by k text v)) ≡ roles.Number → terminal_of (lexeme_by k text v) ≡ t.number (number_in v)
is_number (kinds.Word x) text v e = let f : true ≡ false = sym (word_plays x) ∙ ap plays_itself e in absurd cc
is_number (kinds.Sign x) text v e = let f : true ≡ false = sym (sign_plays x) ∙ ap plays_itself e in absurd cc
is_number kinds.Number text v e = refl
is_number _ text v e = absurd cc

pub as_number : (ts : List Token) → role_of (terminals_of ts) ≡ roles.Number → terminals_of ts ≡ t.number (first_number ts) ∷ drop 1 (terminals_of ts)
as_number [] e = absurd cc
as_number (x ∷ ts) e = ap (λ (y : Terminal). y ∷ terminals_of ts) (is_number x.kind x.text.now x.value e)

is_literal : (k : Kind) (text : List ℕ) (v : Value) → role_as (terminal_of (lexeme_by k text v)) ≡ roles.Literal → terminal_of (lexeme_by k text v) ≡ t.literal (quoted_in v)
is_literal (kinds.Word x) text v e = let f : true ≡ false = sym (word_plays x) ∙ ap plays_itself e in absurd cc
is_literal (kinds.Sign x) text v e = let f : true ≡ false = sym (sign_plays x) ∙ ap plays_itself e in absurd cc
is_literal kinds.Literal text v e = refl
is_literal _ text v e = absurd cc

pub as_literal : (ts : List Token) → role_of (terminals_of ts) ≡ roles.Literal → terminals_of ts ≡ t.literal (first_literal ts) ∷ drop 1 (terminals_of ts)
as_literal [] e = absurd cc
as_literal (x ∷ ts) e = ap (λ (y : Terminal). y ∷ terminals_of ts) (is_literal x.kind x.text.now x.value e)

is_inserts : (k : Kind) (text : List ℕ) (v : Value) → role_as (terminal_of (lexeme_by k text v)) ≡ roles.Inserts → terminal_of (lexeme_by k text v) ≡ t.inserts (inserts_in v).0 (inserts_in v).1
is_inserts (kinds.Word x) text v e = let f : true ≡ false = sym (word_plays x) ∙ ap plays_itself e in absurd cc
is_inserts (kinds.Sign x) text v e = let f : true ≡ false = sym (sign_plays x) ∙ ap plays_itself e in absurd cc
is_inserts kinds.Inserts text v e = refl
is_inserts _ text v e = absurd cc

pub as_inserts : (ts : List Token) → role_of (terminals_of ts) ≡ roles.Inserts → terminals_of ts ≡ t.inserts (first_inserts ts).0 (first_inserts ts).1 ∷ drop 1 (terminals_of ts)
as_inserts [] e = absurd cc
as_inserts (x ∷ ts) e = ap (λ (y : Terminal). y ∷ terminals_of ts) (is_inserts x.kind x.text.now x.value e)

is_macro : (k : Kind) (text : List ℕ) (v : Value) → role_as (terminal_of (lexeme_by k text v)) ≡ roles.MacroName → terminal_of (lexeme_by k text v) ≡ t.macro_name text
is_macro (kinds.Word x) text v e = let f : true ≡ false = sym (word_plays x) ∙ ap plays_itself e in absurd cc
is_macro (kinds.Sign x) text v e = let f : true ≡ false = sym (sign_plays x) ∙ ap plays_itself e in absurd cc
is_macro kinds.MacroName text v e = refl
is_macro _ text v e = absurd cc

pub as_macro : (ts : List Token) → role_of (terminals_of ts) ≡ roles.MacroName → terminals_of ts ≡ t.macro_name (first_text ts) ∷ drop 1 (terminals_of ts)
as_macro [] e = absurd cc
as_macro (x ∷ ts) e = ap (λ (y : Terminal). y ∷ terminals_of ts) (is_macro x.kind x.text.now x.value e)
