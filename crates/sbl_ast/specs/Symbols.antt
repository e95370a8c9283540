-- The word or sign of each constant in a tree, and the tokens of literals and arguments.
use Rattle.std.specs.Prelude.{List, [], ◌∷◌, option_map, unwrap_or, find}
use denote.Enum.Bare.{sameb}
use denote.Enum.Declared.{Declared}
use Rattle.sbl_token.specs.Lexemes.{Lexeme, word, sign, name, literal}
use Rattle.sbl_token.specs.declared.words.Word.TheVariants as w
use Rattle.sbl_token.specs.declared.signs.Sign.TheVariants as s
use Rattle.sbl_ast.specs.Tree.{QuotedText, Argument, written_out, by_name}
use Rattle.sbl_ast.specs.contracts.tree.DeclarationKind.{the_type as declaration_type}
use Rattle.sbl_ast.specs.declared.tree.DeclarationKind.{DeclarationKind}
use Rattle.sbl_ast.specs.declared.tree.DeclarationKind.TheVariants as declarations
use Rattle.sbl_ast.specs.contracts.tree.Base.{the_type as base_type}
use Rattle.sbl_ast.specs.declared.tree.Base.{Base}
use Rattle.sbl_ast.specs.declared.tree.Base.TheVariants as bases
use Rattle.sbl_ast.specs.contracts.tree.Joiner.{the_type as joiner_type}
use Rattle.sbl_ast.specs.declared.tree.Joiner.{Joiner}
use Rattle.sbl_ast.specs.declared.tree.Joiner.TheVariants as joiners
use Rattle.sbl_ast.specs.contracts.tree.Simple.{the_type as simple_type}
use Rattle.sbl_ast.specs.declared.tree.Simple.{Simple}
use Rattle.sbl_ast.specs.declared.tree.Simple.TheVariants as simples
use Rattle.sbl_ast.specs.contracts.tree.Prefix.{the_type as prefix_type}
use Rattle.sbl_ast.specs.declared.tree.Prefix.{Prefix}
use Rattle.sbl_ast.specs.declared.tree.Prefix.TheVariants as prefixes
use Rattle.sbl_ast.specs.contracts.tree.Count.{the_type as count_type}
use Rattle.sbl_ast.specs.declared.tree.Count.{Count}
use Rattle.sbl_ast.specs.declared.tree.Count.TheVariants as counts
use Rattle.sbl_ast.specs.contracts.tree.Move.{the_type as move_type}
use Rattle.sbl_ast.specs.declared.tree.Move.{Move}
use Rattle.sbl_ast.specs.declared.tree.Move.TheVariants as moves
use Rattle.sbl_ast.specs.contracts.tree.Naming.{the_type as naming_type}
use Rattle.sbl_ast.specs.declared.tree.Naming.{Naming}
use Rattle.sbl_ast.specs.declared.tree.Naming.TheVariants as namings
use Rattle.sbl_ast.specs.contracts.tree.Splice.{the_type as splice_type}
use Rattle.sbl_ast.specs.declared.tree.Splice.{Splice}
use Rattle.sbl_ast.specs.declared.tree.Splice.TheVariants as splices
use Rattle.sbl_ast.specs.contracts.tree.Additive.{the_type as additive_type}
use Rattle.sbl_ast.specs.declared.tree.Additive.{Additive}
use Rattle.sbl_ast.specs.declared.tree.Additive.TheVariants as additives
use Rattle.sbl_ast.specs.contracts.tree.Multiplicative.{the_type as multiplicative_type}
use Rattle.sbl_ast.specs.declared.tree.Multiplicative.{Multiplicative}
use Rattle.sbl_ast.specs.declared.tree.Multiplicative.TheVariants as multiplicatives
use Rattle.sbl_ast.specs.contracts.tree.Assignment.{the_type as assignment_type}
use Rattle.sbl_ast.specs.declared.tree.Assignment.{Assignment}
use Rattle.sbl_ast.specs.declared.tree.Assignment.TheVariants as assignments
use Rattle.sbl_ast.specs.contracts.tree.Comparison.{the_type as comparison_type}
use Rattle.sbl_ast.specs.declared.tree.Comparison.{Comparison}
use Rattle.sbl_ast.specs.declared.tree.Comparison.TheVariants as comparisons
use Rattle.sbl_ast.specs.contracts.tree.Constant.{the_type as constant_type}
use Rattle.sbl_ast.specs.declared.tree.Constant.{Constant}
use Rattle.sbl_ast.specs.declared.tree.Constant.TheVariants as constants

-- the lexeme that is paired with this constant in the list; each list below has all constants of its type
abbrev pub beside : (d : Declared) → d.D → List (d.D × Lexeme) → Lexeme
beside d x pairs = unwrap_or (option_map (λ p. p.1) (find (λ p. sameb d p.0 x) pairs)) (name [])

abbrev pub declares : DeclarationKind → Lexeme
declares x = beside declaration_type x
    ((declarations.Booleans, word w.Booleans) ∷ (declarations.Externals, word w.Externals) ∷ (declarations.Groupings, word w.Groupings) ∷
    (declarations.Integers, word w.Integers) ∷ (declarations.Routines, word w.Routines) ∷ (declarations.Strings, word w.Strings) ∷ [])

abbrev pub base : Base → Lexeme
base x = beside base_type x ((bases.Decimal, word w.Decimal) ∷ (bases.Hex, word w.Hex) ∷ [])

abbrev pub joiner : Joiner → Lexeme
joiner x = beside joiner_type x ((joiners.And, word w.And) ∷ (joiners.Or, word w.Or) ∷ [])

abbrev pub simple : Simple → Lexeme
simple x = beside simple_type x
    ((simples.AtLimit, word w.AtLimit) ∷ (simples.Delete, word w.Delete) ∷ (simples.False, word w.False) ∷
    (simples.Next, word w.Next) ∷ (simples.Substring, word w.Substring) ∷ (simples.ToLimit, word w.ToLimit) ∷
    (simples.True, word w.True) ∷ (simples.LeftBracket, sign s.LeftBracket) ∷ (simples.RightBracket, sign s.RightBracket) ∷ [])

abbrev pub prefix : Prefix → Lexeme
prefix x = beside prefix_type x
    ((prefixes.Backwards, word w.Backwards) ∷ (prefixes.Do, word w.Do) ∷ (prefixes.Fail, word w.Fail) ∷
    (prefixes.GoPast, word w.GoPast) ∷ (prefixes.GoTo, word w.GoTo) ∷ (prefixes.Not, word w.Not) ∷
    (prefixes.Repeat, word w.Repeat) ∷ (prefixes.Test, word w.Test) ∷ (prefixes.Try, word w.Try) ∷ [])

abbrev pub count : Count → Lexeme
count x = beside count_type x ((counts.AtLeast, word w.AtLeast) ∷ (counts.Loop, word w.Loop) ∷ [])

abbrev pub move : Move → Lexeme
move x = beside move_type x ((moves.AtMark, word w.AtMark) ∷ (moves.Hop, word w.Hop) ∷ (moves.ToMark, word w.ToMark) ∷ [])

abbrev pub naming : Naming → Lexeme
naming x = beside naming_type x
    ((namings.Set, word w.Set) ∷ (namings.SetMark, word w.SetMark) ∷ (namings.Unset, word w.Unset) ∷ (namings.Arrow, sign s.Arrow) ∷ [])

abbrev pub splice : Splice → Lexeme
splice x = beside splice_type x
    ((splices.Attach, word w.Attach) ∷ (splices.Insert, word w.Insert) ∷ (splices.Replace, sign s.LessMinus) ∷
    (splices.InsertSign, sign s.LessPlus) ∷ [])

abbrev pub additive : Additive → Lexeme
additive x = beside additive_type x ((additives.Plus, sign s.Plus) ∷ (additives.Minus, sign s.Minus) ∷ [])

abbrev pub multiplicative : Multiplicative → Lexeme
multiplicative x = beside multiplicative_type x ((multiplicatives.Times, sign s.Star) ∷ (multiplicatives.Over, sign s.Slash) ∷ [])

abbrev pub assigns : Assignment → Lexeme
assigns x = beside assignment_type x
    ((assignments.Equals, sign s.Equals) ∷ (assignments.Plus, sign s.PlusEquals) ∷ (assignments.Minus, sign s.MinusEquals) ∷
    (assignments.Times, sign s.StarEquals) ∷ (assignments.Over, sign s.SlashEquals) ∷ [])

abbrev pub compares : Comparison → Lexeme
compares x = beside comparison_type x
    ((comparisons.Less, sign s.Less) ∷ (comparisons.Greater, sign s.Greater) ∷ (comparisons.Same, sign s.Same) ∷
    (comparisons.Differs, sign s.Differs) ∷ (comparisons.AtMost, sign s.AtMost) ∷ (comparisons.AtLeast, sign s.AtLeast) ∷ [])

abbrev pub constant : Constant → Lexeme
constant x = beside constant_type x
    ((constants.Cursor, word w.Cursor) ∷ (constants.Len, word w.Len) ∷ (constants.Limit, word w.Limit) ∷
    (constants.MaxInt, word w.MaxInt) ∷ (constants.MinInt, word w.MinInt) ∷ [])

abbrev pub quoted_text : QuotedText → Lexeme
quoted_text q = literal q.spelling q.value

abbrev pub argument : Argument → Lexeme
argument (written_out q) = quoted_text q
argument (by_name n) = name n
