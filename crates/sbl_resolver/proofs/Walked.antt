-- The occurrences of a part of a script are what a walk over its tree adds.
use Rattle.std.proofs.Common.{◌≡◌, ℕ, ◌+◌, List, [], ◌∷◌, refl, sym, ap, ◌∙◌}
use Rattle.sbl_ast.specs.declared.tree.Prefix.{Prefix}
use Rattle.sbl_ast.specs.declared.tree.Prefix.TheVariants as prefixes
use Rattle.sbl_ast.specs.declared.tree.Additive.{Additive}
use Rattle.sbl_ast.specs.declared.tree.Additive.TheVariants as additives
use Rattle.sbl_ast.specs.declared.tree.Constant.{Constant}
use Rattle.sbl_ast.specs.declared.tree.Constant.TheVariants as constants
use Rattle.sbl_ast.specs.declared.tree.Multiplicative.{Multiplicative}
use Rattle.sbl_ast.specs.declared.tree.Multiplicative.TheVariants as multiplicatives
use Rattle.sbl_ast.specs.Symbols as t
use Rattle.sbl_token.specs.Lexemes as lex
use Rattle.sbl_token.specs.declared.signs.Sign.TheVariants as signs
use Rattle.sbl_ast.specs.Places.{AtDepth, tokens, placed_expression, placed_sums, placed_product, placed_scales, placed_factor}
use Rattle.sbl_ast.specs.Tree.{written_out, Expression, expression, Sums, no_sums, sum, Product, product, Scales, no_scales, scale, Factor, negated, bracketed, fixed, length_of, Command, prefixed, among_, Starter, no_starter, starter, Groups}
use Rattle.sbl_resolver.specs.declared.occurrences.Site.{Site}
use Rattle.sbl_resolver.specs.Occurrences.{Occurrence, noted_tokens, noted_expression, noted_command}
use Rattle.sbl_resolver.specs.OccurrenceView.{walked_expression, noted_sums, noted_product, noted_scales, noted_factor, noted_prefix, site_after, noted_among}

-- what is noted of these tokens
abbrev notes_of : List AtDepth → Site → List Occurrence → List Occurrence
notes_of ps p s = noted_tokens (tokens ps) p s

-- an operator or a constant is no name
past_additive : (o : Additive) (d : ℕ) (rest : List AtDepth) (p : Site) (s : List Occurrence) → notes_of ((t.additive o, d) ∷ rest) p s ≡ notes_of rest p s
past_additive additives.Plus d rest p s = refl
past_additive additives.Minus d rest p s = refl

past_multiplicative : (o : Multiplicative) (d : ℕ) (rest : List AtDepth) (p : Site) (s : List Occurrence) → notes_of ((t.multiplicative o, d) ∷ rest) p s ≡ notes_of rest p s
past_multiplicative multiplicatives.Times d rest p s = refl
past_multiplicative multiplicatives.Over d rest p s = refl

past_constant : (c : Constant) (d : ℕ) (rest : List AtDepth) (p : Site) (s : List Occurrence) → notes_of ((t.constant c, d) ∷ rest) p s ≡ notes_of rest p s
past_constant constants.Cursor d rest p s = refl
past_constant _ d rest p s = refl

mutual
  in_expression : (e : Expression) (d : ℕ) (rest : List AtDepth) (p : Site) (s : List Occurrence) → notes_of (placed_expression e d rest) p s ≡ notes_of rest p (walked_expression e p s)
  in_expression (expression x ss) d rest p s = in_product x d (placed_sums ss d rest) p s ∙ in_sums ss d rest p (noted_product x p s)

  in_sums : (ss : Sums) (d : ℕ) (rest : List AtDepth) (p : Site) (s : List Occurrence) → notes_of (placed_sums ss d rest) p s ≡ notes_of rest p (noted_sums ss p s)
  in_sums no_sums d rest p s = refl
  in_sums (sum o x ss) d rest p s = past_additive o d (placed_product x d (placed_sums ss d rest)) p s ∙ in_product x d (placed_sums ss d rest) p s ∙ in_sums ss d rest p (noted_product x p s)

  in_product : (x : Product) (d : ℕ) (rest : List AtDepth) (p : Site) (s : List Occurrence) → notes_of (placed_product x d rest) p s ≡ notes_of rest p (noted_product x p s)
  in_product (product f ss) d rest p s = in_factor f d (placed_scales ss d rest) p s ∙ in_scales ss d rest p (noted_factor f p s)

  in_scales : (ss : Scales) (d : ℕ) (rest : List AtDepth) (p : Site) (s : List Occurrence) → notes_of (placed_scales ss d rest) p s ≡ notes_of rest p (noted_scales ss p s)
  in_scales no_scales d rest p s = refl
  in_scales (scale o f ss) d rest p s = past_multiplicative o d (placed_factor f d (placed_scales ss d rest)) p s ∙ in_factor f d (placed_scales ss d rest) p s ∙ in_scales ss d rest p (noted_factor f p s)

  in_factor : (f : Factor) (d : ℕ) (rest : List AtDepth) (p : Site) (s : List Occurrence) → notes_of (placed_factor f d rest) p s ≡ notes_of rest p (noted_factor f p s)
  in_factor (negated f) d rest p s = in_factor f (d + 1) rest p s
  in_factor (bracketed e) d rest p s = in_expression e (d + 1) ((lex.sign signs.Close, d + 1) ∷ rest) p s
  in_factor (fixed c) d rest p s = past_constant c d rest p s
  in_factor (length_of (written_out q)) d rest p s = refl
  in_factor _ d rest p s = refl

pub expression_is : (e : Expression) (p : Site) (s : List Occurrence) → noted_expression e p s ≡ walked_expression e p s
expression_is e p s = in_expression e 0 [] p s

pub prefixed_is : (x : Prefix) (c : Command) (p : Site) (s : List Occurrence) → noted_command (prefixed x c) p s ≡ noted_command c (site_after x p) (noted_prefix x p s)
prefixed_is prefixes.Backwards c p s = refl
prefixed_is _ c p s = refl

pub among_is : (x : Starter) (gs : Groups) (p : Site) (s : List Occurrence) → noted_command (among_ x gs) p s ≡ noted_among x gs p s
among_is no_starter gs p s = refl
among_is (starter rs) gs p s = refl
