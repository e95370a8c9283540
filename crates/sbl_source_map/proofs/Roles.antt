-- The tokens that the checks look at, by their roles.
use Rattle.std.proofs.Common.{◌≡◌, Bool, true, false, List, ◌∷◌, Option, Some, None, refl}
use Rattle.sbl_token.specs.Lexemes.{Lexeme, word, sign}
use Rattle.sbl_token.specs.Lexemes as lexemes
use Rattle.sbl_token.specs.declared.words.Word.TheVariants as w
use Rattle.sbl_token.specs.declared.signs.Sign.TheVariants as g
use Rattle.sbl_ast.specs.declared.tree.Simple.TheVariants as simples
use Rattle.sbl_ast.specs.declared.tree.Prefix.TheVariants as prefixes
use Rattle.sbl_ast.specs.Terminal.{Terminal, terminal_of}
use Rattle.sbl_ast.specs.Terminal as t
use Rattle.sbl_resolver.specs.Subjects.{Subject, name, substring, among, backwards}
use Rattle.sbl_source_map.specs.SubjectTokens.{string_if, without_first}
use Rattle.sbl_source_map.specs.SubjectTokens as tokens

abbrev pub is_among : Terminal → Bool
is_among t.among = true
is_among _ = false

abbrev pub open_after : Bool → Terminal → List Bool → List Bool
open_after follows_among t.open_ brackets = follows_among ∷ brackets
open_after follows_among t.close_ brackets = without_first brackets
open_after follows_among _ brackets = brackets

abbrev pub subject_in : Bool → Terminal → Option Subject
subject_in in_among (t.name n) = Some (name n)
subject_in in_among (t.simple simples.Substring) = Some substring
subject_in in_among t.among = Some among
subject_in in_among (t.prefix prefixes.Backwards) = Some backwards
subject_in in_among (t.literal q) = string_if in_among q.value
subject_in in_among _ = None

-- a token is to the checks what its role is
abbrev IsSame : Lexeme → Type 0
IsSame x =
    ((b : Bool) → tokens.subject_in b x ≡ subject_in b (terminal_of x)) × (tokens.is_among x ≡ is_among (terminal_of x))
    × ((f : Bool) (o : List Bool) → tokens.open_after f x o ≡ open_after f (terminal_of x) o)

pub same : (x : Lexeme) → IsSame x
same (word w.Among) = ((λ b. refl), refl, (λ f o. refl))
same (word w.And) = ((λ b. refl), refl, (λ f o. refl))
same (word w.As) = ((λ b. refl), refl, (λ f o. refl))
same (word w.AtLeast) = ((λ b. refl), refl, (λ f o. refl))
same (word w.AtLimit) = ((λ b. refl), refl, (λ f o. refl))
same (word w.AtMark) = ((λ b. refl), refl, (λ f o. refl))
same (word w.Attach) = ((λ b. refl), refl, (λ f o. refl))
same (word w.BackwardMode) = ((λ b. refl), refl, (λ f o. refl))
same (word w.Backwards) = ((λ b. refl), refl, (λ f o. refl))
same (word w.Booleans) = ((λ b. refl), refl, (λ f o. refl))
same (word w.Cursor) = ((λ b. refl), refl, (λ f o. refl))
same (word w.Decimal) = ((λ b. refl), refl, (λ f o. refl))
same (word w.Define) = ((λ b. refl), refl, (λ f o. refl))
same (word w.Delete) = ((λ b. refl), refl, (λ f o. refl))
same (word w.Do) = ((λ b. refl), refl, (λ f o. refl))
same (word w.Externals) = ((λ b. refl), refl, (λ f o. refl))
same (word w.Fail) = ((λ b. refl), refl, (λ f o. refl))
same (word w.False) = ((λ b. refl), refl, (λ f o. refl))
same (word w.For) = ((λ b. refl), refl, (λ f o. refl))
same (word w.Get) = ((λ b. refl), refl, (λ f o. refl))
same (word w.GoPast) = ((λ b. refl), refl, (λ f o. refl))
same (word w.GoTo) = ((λ b. refl), refl, (λ f o. refl))
same (word w.Groupings) = ((λ b. refl), refl, (λ f o. refl))
same (word w.Hex) = ((λ b. refl), refl, (λ f o. refl))
same (word w.Hop) = ((λ b. refl), refl, (λ f o. refl))
same (word w.Insert) = ((λ b. refl), refl, (λ f o. refl))
same (word w.Integers) = ((λ b. refl), refl, (λ f o. refl))
same (word w.Len) = ((λ b. refl), refl, (λ f o. refl))
same (word w.LenOf) = ((λ b. refl), refl, (λ f o. refl))
same (word w.Limit) = ((λ b. refl), refl, (λ f o. refl))
same (word w.Loop) = ((λ b. refl), refl, (λ f o. refl))
same (word w.MaxInt) = ((λ b. refl), refl, (λ f o. refl))
same (word w.MinInt) = ((λ b. refl), refl, (λ f o. refl))
same (word w.Next) = ((λ b. refl), refl, (λ f o. refl))
same (word w.Non) = ((λ b. refl), refl, (λ f o. refl))
same (word w.Not) = ((λ b. refl), refl, (λ f o. refl))
same (word w.Or) = ((λ b. refl), refl, (λ f o. refl))
same (word w.Repeat) = ((λ b. refl), refl, (λ f o. refl))
same (word w.Reverse) = ((λ b. refl), refl, (λ f o. refl))
same (word w.Routines) = ((λ b. refl), refl, (λ f o. refl))
same (word w.Set) = ((λ b. refl), refl, (λ f o. refl))
same (word w.SetLimit) = ((λ b. refl), refl, (λ f o. refl))
same (word w.SetMark) = ((λ b. refl), refl, (λ f o. refl))
same (word w.Size) = ((λ b. refl), refl, (λ f o. refl))
same (word w.SizeOf) = ((λ b. refl), refl, (λ f o. refl))
same (word w.StringDef) = ((λ b. refl), refl, (λ f o. refl))
same (word w.StringEscapes) = ((λ b. refl), refl, (λ f o. refl))
same (word w.Strings) = ((λ b. refl), refl, (λ f o. refl))
same (word w.Substring) = ((λ b. refl), refl, (λ f o. refl))
same (word w.Test) = ((λ b. refl), refl, (λ f o. refl))
same (word w.ToLimit) = ((λ b. refl), refl, (λ f o. refl))
same (word w.ToMark) = ((λ b. refl), refl, (λ f o. refl))
same (word w.True) = ((λ b. refl), refl, (λ f o. refl))
same (word w.Try) = ((λ b. refl), refl, (λ f o. refl))
same (word w.Unset) = ((λ b. refl), refl, (λ f o. refl))
same (sign g.Open) = ((λ b. refl), refl, (λ f o. refl))
same (sign g.Close) = ((λ b. refl), refl, (λ f o. refl))
same (sign g.LeftBracket) = ((λ b. refl), refl, (λ f o. refl))
same (sign g.RightBracket) = ((λ b. refl), refl, (λ f o. refl))
same (sign g.Dollar) = ((λ b. refl), refl, (λ f o. refl))
same (sign g.Plus) = ((λ b. refl), refl, (λ f o. refl))
same (sign g.Minus) = ((λ b. refl), refl, (λ f o. refl))
same (sign g.Star) = ((λ b. refl), refl, (λ f o. refl))
same (sign g.Slash) = ((λ b. refl), refl, (λ f o. refl))
same (sign g.Equals) = ((λ b. refl), refl, (λ f o. refl))
same (sign g.Question) = ((λ b. refl), refl, (λ f o. refl))
same (sign g.Less) = ((λ b. refl), refl, (λ f o. refl))
same (sign g.Greater) = ((λ b. refl), refl, (λ f o. refl))
same (sign g.Same) = ((λ b. refl), refl, (λ f o. refl))
same (sign g.Differs) = ((λ b. refl), refl, (λ f o. refl))
same (sign g.AtMost) = ((λ b. refl), refl, (λ f o. refl))
same (sign g.AtLeast) = ((λ b. refl), refl, (λ f o. refl))
same (sign g.LessMinus) = ((λ b. refl), refl, (λ f o. refl))
same (sign g.LessPlus) = ((λ b. refl), refl, (λ f o. refl))
same (sign g.Arrow) = ((λ b. refl), refl, (λ f o. refl))
same (sign g.PlusEquals) = ((λ b. refl), refl, (λ f o. refl))
same (sign g.MinusEquals) = ((λ b. refl), refl, (λ f o. refl))
same (sign g.StarEquals) = ((λ b. refl), refl, (λ f o. refl))
same (sign g.SlashEquals) = ((λ b. refl), refl, (λ f o. refl))
same (sign g.EqualsGreater) = ((λ b. refl), refl, (λ f o. refl))
same (lexemes.name n) = ((λ b. refl), refl, (λ f o. refl))
same (lexemes.number n) = ((λ b. refl), refl, (λ f o. refl))
same (lexemes.literal s v) = ((λ b. refl), refl, (λ f o. refl))
same (lexemes.inserts a b) = ((λ b. refl), refl, (λ f o. refl))
same (lexemes.macro_name n) = ((λ b. refl), refl, (λ f o. refl))
