-- A token and the part that it plays in the grammar determine one another.
use Rattle.std.proofs.Common.{◌≡◌, refl}
use Rattle.sbl_token.specs.Lexemes.{Lexeme, word, sign}
use Rattle.sbl_token.specs.declared.words.Word.TheVariants as w
use Rattle.sbl_token.specs.declared.signs.Sign.TheVariants as g
use Rattle.sbl_ast.specs.declared.tree.DeclarationKind.TheVariants as declarations
use Rattle.sbl_ast.specs.declared.tree.Base.TheVariants as bases
use Rattle.sbl_ast.specs.declared.tree.Joiner.TheVariants as joiners
use Rattle.sbl_ast.specs.declared.tree.Simple.TheVariants as simples
use Rattle.sbl_ast.specs.declared.tree.Prefix.TheVariants as prefixes
use Rattle.sbl_ast.specs.declared.tree.Count.TheVariants as counts
use Rattle.sbl_ast.specs.declared.tree.Move.TheVariants as moves
use Rattle.sbl_ast.specs.declared.tree.Naming.TheVariants as namings
use Rattle.sbl_ast.specs.declared.tree.Splice.TheVariants as splices
use Rattle.sbl_ast.specs.declared.tree.Additive.TheVariants as additives
use Rattle.sbl_ast.specs.declared.tree.Multiplicative.TheVariants as multiplicatives
use Rattle.sbl_ast.specs.declared.tree.Assignment.TheVariants as assignments
use Rattle.sbl_ast.specs.declared.tree.Comparison.TheVariants as comparisons
use Rattle.sbl_ast.specs.declared.tree.Constant.TheVariants as constants
use Rattle.sbl_ast.specs.Terminal.{Terminal, terminal_of, lexeme_as, get}
use Rattle.sbl_ast.specs.Terminal as t

pub there : (x : Lexeme) → lexeme_as (terminal_of x) ≡ x
there (word w.Among) = refl
there (sign g.Open) = refl
there _ = refl

pub back : (x : Terminal) → terminal_of (lexeme_as x) ≡ x
back t.open_ = refl
back (t.joiner joiners.And) = refl
back (t.count counts.AtLeast) = refl
back (t.simple simples.AtLimit) = refl
back (t.move moves.AtMark) = refl
back (t.edit splices.Attach) = refl
back (t.prefix prefixes.Backwards) = refl
back (t.declares declarations.Booleans) = refl
back (t.constant constants.Cursor) = refl
back (t.base bases.Decimal) = refl
back (t.other get) = refl
back (t.naming namings.Set) = refl
back (t.additive additives.Plus) = refl
back (t.multiplicative multiplicatives.Times) = refl
back (t.assigns assignments.Equals) = refl
back (t.compares comparisons.Less) = refl
back _ = refl
