-- A token as the grammar sees it: its role.
use Rattle.std.specs.Prelude.{ℕ, List, [], ◌∷◌, map, drop}
use Rattle.sbl_token.specs.Lexemes.{Lexeme, word, sign, lexeme_of}
use Rattle.sbl_token.specs.Lexemes as lexemes
use Rattle.sbl_token.specs.declared.words.Word.{Word}
use Rattle.sbl_token.specs.declared.words.Word.TheVariants as w
use Rattle.sbl_token.specs.declared.signs.Sign.{Sign}
use Rattle.sbl_token.specs.declared.signs.Sign.TheVariants as s
use Rattle.sbl_token.specs.declared.token.Token.{Token}
use Rattle.sbl_ast.specs.Tree.{QuotedText}
use Rattle.sbl_ast.specs.Symbols as symbols
use Rattle.sbl_ast.specs.declared.tree.DeclarationKind.{DeclarationKind}
use Rattle.sbl_ast.specs.declared.tree.DeclarationKind.TheVariants as declarations
use Rattle.sbl_ast.specs.declared.tree.Base.{Base}
use Rattle.sbl_ast.specs.declared.tree.Base.TheVariants as bases
use Rattle.sbl_ast.specs.declared.tree.Joiner.{Joiner}
use Rattle.sbl_ast.specs.declared.tree.Joiner.TheVariants as joiners
use Rattle.sbl_ast.specs.declared.tree.Simple.{Simple}
use Rattle.sbl_ast.specs.declared.tree.Simple.TheVariants as simples
use Rattle.sbl_ast.specs.declared.tree.Prefix.{Prefix}
use Rattle.sbl_ast.specs.declared.tree.Prefix.TheVariants as prefixes
use Rattle.sbl_ast.specs.declared.tree.Count.{Count}
use Rattle.sbl_ast.specs.declared.tree.Count.TheVariants as counts
use Rattle.sbl_ast.specs.declared.tree.Move.{Move}
use Rattle.sbl_ast.specs.declared.tree.Move.TheVariants as moves
use Rattle.sbl_ast.specs.declared.tree.Naming.{Naming}
use Rattle.sbl_ast.specs.declared.tree.Naming.TheVariants as namings
use Rattle.sbl_ast.specs.declared.tree.Splice.{Splice}
use Rattle.sbl_ast.specs.declared.tree.Splice.TheVariants as splices
use Rattle.sbl_ast.specs.declared.tree.Additive.{Additive}
use Rattle.sbl_ast.specs.declared.tree.Additive.TheVariants as additives
use Rattle.sbl_ast.specs.declared.tree.Multiplicative.{Multiplicative}
use Rattle.sbl_ast.specs.declared.tree.Multiplicative.TheVariants as multiplicatives
use Rattle.sbl_ast.specs.declared.tree.Assignment.{Assignment}
use Rattle.sbl_ast.specs.declared.tree.Assignment.TheVariants as assignments
use Rattle.sbl_ast.specs.declared.tree.Comparison.{Comparison}
use Rattle.sbl_ast.specs.declared.tree.Comparison.TheVariants as comparisons
use Rattle.sbl_ast.specs.declared.tree.Constant.{Constant}
use Rattle.sbl_ast.specs.declared.tree.Constant.TheVariants as constants

-- words and signs that occur in no tree
pub data Other : Type 0 where
  get reverse size size_of question equals_greater : Other

-- names are UTF-8 bytes
pub data Terminal : Type 0 where
  open_ close_ dollar as_ for_ non among define backward_mode set_limit string_def string_escapes len_of : Terminal
  declares : DeclarationKind → Terminal
  base : Base → Terminal
  joiner : Joiner → Terminal
  simple : Simple → Terminal
  prefix : Prefix → Terminal
  count : Count → Terminal
  move : Move → Terminal
  naming : Naming → Terminal
  edit : Splice → Terminal
  additive : Additive → Terminal
  multiplicative : Multiplicative → Terminal
  assigns : Assignment → Terminal
  compares : Comparison → Terminal
  constant : Constant → Terminal
  name : List ℕ → Terminal
  number : ℕ → Terminal
  literal : QuotedText → Terminal
  inserts : ℕ → ℕ → Terminal
  macro_name : List ℕ → Terminal
  other : Other → Terminal

-- ---- the role of each lexeme

abbrev pub word_terminal : Word → Terminal
word_terminal w.Among = among
word_terminal w.And = joiner joiners.And
word_terminal w.As = as_
word_terminal w.AtLeast = count counts.AtLeast
word_terminal w.AtLimit = simple simples.AtLimit
word_terminal w.AtMark = move moves.AtMark
word_terminal w.Attach = edit splices.Attach
word_terminal w.BackwardMode = backward_mode
word_terminal w.Backwards = prefix prefixes.Backwards
word_terminal w.Booleans = declares declarations.Booleans
word_terminal w.Cursor = constant constants.Cursor
word_terminal w.Decimal = base bases.Decimal
word_terminal w.Define = define
word_terminal w.Delete = simple simples.Delete
word_terminal w.Do = prefix prefixes.Do
word_terminal w.Externals = declares declarations.Externals
word_terminal w.Fail = prefix prefixes.Fail
word_terminal w.False = simple simples.False
word_terminal w.For = for_
word_terminal w.Get = other get
word_terminal w.GoPast = prefix prefixes.GoPast
word_terminal w.GoTo = prefix prefixes.GoTo
word_terminal w.Groupings = declares declarations.Groupings
word_terminal w.Hex = base bases.Hex
word_terminal w.Hop = move moves.Hop
word_terminal w.Insert = edit splices.Insert
word_terminal w.Integers = declares declarations.Integers
word_terminal w.Len = constant constants.Len
word_terminal w.LenOf = len_of
word_terminal w.Limit = constant constants.Limit
word_terminal w.Loop = count counts.Loop
word_terminal w.MaxInt = constant constants.MaxInt
word_terminal w.MinInt = constant constants.MinInt
word_terminal w.Next = simple simples.Next
word_terminal w.Non = non
word_terminal w.Not = prefix prefixes.Not
word_terminal w.Or = joiner joiners.Or
word_terminal w.Repeat = prefix prefixes.Repeat
word_terminal w.Reverse = other reverse
word_terminal w.Routines = declares declarations.Routines
word_terminal w.Set = naming namings.Set
word_terminal w.SetLimit = set_limit
word_terminal w.SetMark = naming namings.SetMark
word_terminal w.Size = other size
word_terminal w.SizeOf = other size_of
word_terminal w.StringDef = string_def
word_terminal w.StringEscapes = string_escapes
word_terminal w.Strings = declares declarations.Strings
word_terminal w.Substring = simple simples.Substring
word_terminal w.Test = prefix prefixes.Test
word_terminal w.ToLimit = simple simples.ToLimit
word_terminal w.ToMark = move moves.ToMark
word_terminal w.True = simple simples.True
word_terminal w.Try = prefix prefixes.Try
word_terminal w.Unset = naming namings.Unset

abbrev pub sign_terminal : Sign → Terminal
sign_terminal s.Open = open_
sign_terminal s.Close = close_
sign_terminal s.LeftBracket = simple simples.LeftBracket
sign_terminal s.RightBracket = simple simples.RightBracket
sign_terminal s.Dollar = dollar
sign_terminal s.Plus = additive additives.Plus
sign_terminal s.Minus = additive additives.Minus
sign_terminal s.Star = multiplicative multiplicatives.Times
sign_terminal s.Slash = multiplicative multiplicatives.Over
sign_terminal s.Equals = assigns assignments.Equals
sign_terminal s.Question = other question
sign_terminal s.Less = compares comparisons.Less
sign_terminal s.Greater = compares comparisons.Greater
sign_terminal s.Same = compares comparisons.Same
sign_terminal s.Differs = compares comparisons.Differs
sign_terminal s.AtMost = compares comparisons.AtMost
sign_terminal s.AtLeast = compares comparisons.AtLeast
sign_terminal s.LessMinus = edit splices.Replace
sign_terminal s.LessPlus = edit splices.InsertSign
sign_terminal s.Arrow = naming namings.Arrow
sign_terminal s.PlusEquals = assigns assignments.Plus
sign_terminal s.MinusEquals = assigns assignments.Minus
sign_terminal s.StarEquals = assigns assignments.Times
sign_terminal s.SlashEquals = assigns assignments.Over
sign_terminal s.EqualsGreater = other equals_greater

abbrev pub terminal_of : Lexeme → Terminal
terminal_of (word v) = word_terminal v
terminal_of (sign v) = sign_terminal v
terminal_of (lexemes.name n) = name n
terminal_of (lexemes.number n) = number n
terminal_of (lexemes.literal spelling value) = literal (record { spelling = spelling; value = value })
terminal_of (lexemes.inserts a b) = inserts a b
terminal_of (lexemes.macro_name n) = macro_name n

abbrev pub terminals_of : List Token → List Terminal
terminals_of ts = map (λ t. terminal_of (lexeme_of t)) ts

-- the tokens from index `at` on
abbrev pub tokens_left : List Token → ℕ → List Terminal
tokens_left ts at = terminals_of (drop at ts)

-- ---- the lexeme of each role

abbrev pub other_lexeme : Other → Lexeme
other_lexeme get = word w.Get
other_lexeme reverse = word w.Reverse
other_lexeme size = word w.Size
other_lexeme size_of = word w.SizeOf
other_lexeme question = sign s.Question
other_lexeme equals_greater = sign s.EqualsGreater

abbrev pub lexeme_as : Terminal → Lexeme
lexeme_as open_ = sign s.Open
lexeme_as close_ = sign s.Close
lexeme_as dollar = sign s.Dollar
lexeme_as as_ = word w.As
lexeme_as for_ = word w.For
lexeme_as non = word w.Non
lexeme_as among = word w.Among
lexeme_as define = word w.Define
lexeme_as backward_mode = word w.BackwardMode
lexeme_as set_limit = word w.SetLimit
lexeme_as string_def = word w.StringDef
lexeme_as string_escapes = word w.StringEscapes
lexeme_as len_of = word w.LenOf
lexeme_as (declares x) = symbols.declares x
lexeme_as (base x) = symbols.base x
lexeme_as (joiner x) = symbols.joiner x
lexeme_as (simple x) = symbols.simple x
lexeme_as (prefix x) = symbols.prefix x
lexeme_as (count x) = symbols.count x
lexeme_as (move x) = symbols.move x
lexeme_as (naming x) = symbols.naming x
lexeme_as (edit x) = symbols.splice x
lexeme_as (additive x) = symbols.additive x
lexeme_as (multiplicative x) = symbols.multiplicative x
lexeme_as (assigns x) = symbols.assigns x
lexeme_as (compares x) = symbols.compares x
lexeme_as (constant x) = symbols.constant x
lexeme_as (other x) = other_lexeme x
lexeme_as (name n) = lexemes.name n
lexeme_as (number n) = lexemes.number n
lexeme_as (literal q) = symbols.quoted_text q
lexeme_as (inserts a b) = lexemes.inserts a b
lexeme_as (macro_name n) = lexemes.macro_name n
