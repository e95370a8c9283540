-- The trees of the grammar.
use Rattle.std.specs.Prelude.{ℕ, Bool, List, Option}
use Rattle.sbl_ast.specs.declared.tree.DeclarationKind.{DeclarationKind}
use Rattle.sbl_ast.specs.declared.tree.Base.{Base}
use Rattle.sbl_ast.specs.declared.tree.Joiner.{Joiner}
use Rattle.sbl_ast.specs.declared.tree.Simple.{Simple}
use Rattle.sbl_ast.specs.declared.tree.Prefix.{Prefix}
use Rattle.sbl_ast.specs.declared.tree.Count.{Count}
use Rattle.sbl_ast.specs.declared.tree.Move.{Move}
use Rattle.sbl_ast.specs.declared.tree.Naming.{Naming}
use Rattle.sbl_ast.specs.declared.tree.Splice.{Splice}
use Rattle.sbl_ast.specs.declared.tree.Additive.{Additive}
use Rattle.sbl_ast.specs.declared.tree.Multiplicative.{Multiplicative}
use Rattle.sbl_ast.specs.declared.tree.Assignment.{Assignment}
use Rattle.sbl_ast.specs.declared.tree.Comparison.{Comparison}
use Rattle.sbl_ast.specs.declared.tree.Constant.{Constant}

-- a literal: its spelling, as UTF-8 bytes, and the characters that it means
pub record QuotedText : Type 0 where
  pub spelling : List ℕ
  pub value : List ℕ

-- a literal, or a name that is used instead; names are UTF-8 bytes
pub data Argument : Type 0 where
  written_out : QuotedText → Argument
  by_name : List ℕ → Argument

-- ---- arithmetic: products that are added from left to right, each with factors that are multiplied from left to right

mutual
  pub data Expression : Type 0 where
    expression : Product → Sums → Expression

  pub data Sums : Type 0 where
    no_sums : Sums
    sum : Additive → Product → Sums → Sums

  pub data Product : Type 0 where
    product : Factor → Scales → Product

  pub data Scales : Type 0 where
    no_scales : Scales
    scale : Multiplicative → Factor → Scales → Scales

  pub data Factor : Type 0 where
    negated : Factor → Factor
    bracketed : Expression → Factor
    numeral : ℕ → Factor
    variable : List ℕ → Factor
    fixed : Constant → Factor
    length_of : Argument → Factor

-- ---- commands

-- a string of an among, and its condition
pub data Entry : Type 0 where
  entry : QuotedText → Option (List ℕ) → Entry

mutual
  pub data Command : Type 0 where
    bracket : Rows → Command
    simple_ : Simple → Command
    literal_ : QuotedText → Command
    name_ : List ℕ → Command
    non_ : Bool → List ℕ → Command
    prefixed : Prefix → Command → Command
    counted : Count → Expression → Command → Command
    move_ : Move → Expression → Command
    named : Naming → List ℕ → Command
    splice_ : Splice → Argument → Command
    setlimit_ : Command → Command → Command
    assign_ : List ℕ → Assignment → Expression → Command
    compare_ : List ℕ → Comparison → Expression → Command
    compare_values_ : Expression → Comparison → Expression → Command
    among_ : Starter → Groups → Command

  -- each row is a first command and the commands that are joined to it
  pub data Rows : Type 0 where
    no_rows : Rows
    row : Command → Others → Rows → Rows

  pub data Others : Type 0 where
    no_others : Others
    joined : Joiner → Command → Others → Others

  -- the parentheses before the first string of an among
  pub data Starter : Type 0 where
    no_starter : Starter
    starter : Rows → Starter

  -- a group is a first string, more strings and parentheses; strings without parentheses may follow the last group
  pub data Groups : Type 0 where
    bare : List Entry → Groups
    group : Entry → List Entry → Rows → Groups → Groups

-- ---- items

pub data Term : Type 0 where
  term : Additive → Argument → Term

pub data Plain : Type 0 where
  declaration : DeclarationKind → List (List ℕ) → Plain
  escapes : ℕ → ℕ → Plain
  macro : List ℕ → Option Base → QuotedText → Plain
  routine : List ℕ → Command → Others → Plain
  grouping : List ℕ → Argument → List Term → Plain

pub data Item : Type 0 where
  plain : Plain → Item
  backward : List Plain → Item
