-- The tokens of a tree are all offered: none is left out.
use Rattle.std.proofs.Common.{◌≡◌, ℕ, Bool, true, false, List, [], ◌∷◌, Option, Some, None, map, refl, ap, ◌∙◌}
use Rattle.std.specs.List.{list_any}
use Rattle.sbl_ast.specs.declared.tree.DeclarationKind.{DeclarationKind}
use Rattle.sbl_ast.specs.declared.tree.DeclarationKind.TheVariants as declarations
use Rattle.sbl_ast.specs.declared.tree.Base.{Base}
use Rattle.sbl_ast.specs.declared.tree.Base.TheVariants as bases
use Rattle.sbl_ast.specs.declared.tree.Joiner.{Joiner}
use Rattle.sbl_ast.specs.declared.tree.Joiner.TheVariants as joiners
use Rattle.sbl_ast.specs.declared.tree.Simple.{Simple}
use Rattle.sbl_ast.specs.declared.tree.Simple.TheVariants as simples
use Rattle.sbl_ast.specs.declared.tree.Prefix.{Prefix}
use Rattle.sbl_ast.specs.declared.tree.Prefix.TheVariants as prefixes
use Rattle.sbl_ast.specs.declared.tree.Count.{Count}
use Rattle.sbl_ast.specs.declared.tree.Count.TheVariants as counts
use Rattle.sbl_ast.specs.declared.tree.Move.{Move}
use Rattle.sbl_ast.specs.declared.tree.Move.TheVariants as moves
use Rattle.sbl_ast.specs.declared.tree.Naming.{Naming}
use Rattle.sbl_ast.specs.declared.tree.Naming.TheVariants as namings
use Rattle.sbl_ast.specs.declared.tree.Splice.{Splice}
use Rattle.sbl_ast.specs.declared.tree.Splice.TheVariants as splices
use Rattle.sbl_ast.specs.declared.tree.Additive.{Additive}
use Rattle.sbl_ast.specs.declared.tree.Additive.TheVariants as additives
use Rattle.sbl_ast.specs.declared.tree.Multiplicative.{Multiplicative}
use Rattle.sbl_ast.specs.declared.tree.Multiplicative.TheVariants as multiplicatives
use Rattle.sbl_ast.specs.declared.tree.Assignment.{Assignment}
use Rattle.sbl_ast.specs.declared.tree.Assignment.TheVariants as assignments
use Rattle.sbl_ast.specs.declared.tree.Comparison.{Comparison}
use Rattle.sbl_ast.specs.declared.tree.Comparison.TheVariants as comparisons
use Rattle.sbl_ast.specs.declared.tree.Constant.{Constant}
use Rattle.sbl_ast.specs.declared.tree.Constant.TheVariants as constants
use Rattle.sbl_ast.specs.Terminal.{Terminal, lexeme_as}
use Rattle.sbl_ast.specs.Terminal as t
use Rattle.sbl_ast.specs.Tree.{Expression, expression, Sums, no_sums, sum, Product, product, Scales, no_scales, scale, Factor, negated, bracketed, numeral, variable, fixed, length_of, Argument, written_out, by_name, Entry, entry, Command, bracket, simple_, literal_, name_, non_, prefixed, counted, move_, named, splice_, setlimit_, assign_, compare_, compare_values_, among_, Rows, no_rows, row, Others, no_others, joined, Starter, no_starter, starter, Groups, bare, group, Term, term, Plain, declaration, escapes, macro, routine, grouping, Item, plain, backward}
use Rattle.sbl_ast.specs.Spelled.{argument_terminal, spelled_expression, spelled_sums, spelled_product, spelled_scales, spelled_factor, spelled_entry, spelled_entries, spelled_command, spelled_rows, spelled_others, spelled_starter, spelled_groups, spelled_names, spelled_base, spelled_terms, spelled_plain, spelled_plains, spelled_items, script_tokens}
use Rattle.sbl_ast.specs.Places.{lexemes_of}
use Rattle.sbl_ast.specs.Texts.{script}
use Rattle.sbl_ast.proofs.Lexed.{text_lexed}
use Rattle.sbl_ast.proofs.PlacedTokens.{places_tokens}
use Rattle.sbl_parser.specs.Profile.{is_left_out}

abbrev Ts : Type 0
Ts = List Terminal

-- whether one of them is left out
abbrev any_left_out : Ts → Bool
any_left_out ts = list_any is_left_out (map lexeme_as ts)

abbrev IsOffered : Terminal → Type 0
IsOffered x = is_left_out (lexeme_as x) ≡ false

past : (x : Terminal) (ts : Ts) → IsOffered x → any_left_out (x ∷ ts) ≡ any_left_out ts
past x ts h = rw h refl

-- ---- words and signs

offered_declaration : (x : DeclarationKind) → IsOffered (t.declares x)
offered_declaration declarations.Booleans = refl
offered_declaration _ = refl

offered_base : (x : Base) → IsOffered (t.base x)
offered_base bases.Decimal = refl
offered_base _ = refl

joining : (x : Joiner) → IsOffered (t.joiner x)
joining joiners.And = refl
joining _ = refl

simply : (x : Simple) → IsOffered (t.simple x)
simply simples.AtLimit = refl
simply _ = refl

before : (x : Prefix) → IsOffered (t.prefix x)
before prefixes.Backwards = refl
before _ = refl

counting : (x : Count) → IsOffered (t.count x)
counting counts.AtLeast = refl
counting _ = refl

moving : (x : Move) → IsOffered (t.move x)
moving moves.AtMark = refl
moving _ = refl

naming_ : (x : Naming) → IsOffered (t.naming x)
naming_ namings.Set = refl
naming_ _ = refl

splicing : (x : Splice) → IsOffered (t.edit x)
splicing splices.Attach = refl
splicing _ = refl

adding : (x : Additive) → IsOffered (t.additive x)
adding additives.Plus = refl
adding _ = refl

scaling : (x : Multiplicative) → IsOffered (t.multiplicative x)
scaling multiplicatives.Times = refl
scaling _ = refl

assigning : (x : Assignment) → IsOffered (t.assigns x)
assigning assignments.Equals = refl
assigning _ = refl

comparing : (x : Comparison) → IsOffered (t.compares x)
comparing comparisons.Less = refl
comparing _ = refl

standing : (x : Constant) → IsOffered (t.constant x)
standing constants.Cursor = refl
standing _ = refl

arguing : (a : Argument) → IsOffered (argument_terminal a)
arguing (written_out q) = refl
arguing (by_name n) = refl

-- ---- trees

mutual
  of_expression : (x : Expression) (ts : Ts) → any_left_out (spelled_expression x ts) ≡ any_left_out ts
  of_expression (expression p ss) ts = of_product p (spelled_sums ss ts) ∙ of_sums ss ts

  of_sums : (ss : Sums) (ts : Ts) → any_left_out (spelled_sums ss ts) ≡ any_left_out ts
  of_sums no_sums ts = refl
  of_sums (sum o p ss) ts = past (t.additive o) (spelled_product p (spelled_sums ss ts)) (adding o) ∙ of_product p (spelled_sums ss ts) ∙ of_sums ss ts

  of_product : (p : Product) (ts : Ts) → any_left_out (spelled_product p ts) ≡ any_left_out ts
  of_product (product f ss) ts = of_factor f (spelled_scales ss ts) ∙ of_scales ss ts

  of_scales : (ss : Scales) (ts : Ts) → any_left_out (spelled_scales ss ts) ≡ any_left_out ts
  of_scales no_scales ts = refl
  of_scales (scale o f ss) ts = past (t.multiplicative o) (spelled_factor f (spelled_scales ss ts)) (scaling o) ∙ of_factor f (spelled_scales ss ts) ∙ of_scales ss ts

  of_factor : (f : Factor) (ts : Ts) → any_left_out (spelled_factor f ts) ≡ any_left_out ts
  of_factor (negated f) ts = of_factor f ts
  of_factor (bracketed e) ts = of_expression e (t.close_ ∷ ts)
  of_factor (numeral n) ts = refl
  of_factor (variable n) ts = refl
  of_factor (fixed c) ts = past (t.constant c) ts (standing c)
  of_factor (length_of a) ts = past (argument_terminal a) ts (arguing a)

of_entry : (x : Entry) (ts : Ts) → any_left_out (spelled_entry x ts) ≡ any_left_out ts
of_entry (entry q None) ts = refl
of_entry (entry q (Some n)) ts = refl

of_entries : (xs : List Entry) (ts : Ts) → any_left_out (spelled_entries xs ts) ≡ any_left_out ts
of_entries [] ts = refl
of_entries (x ∷ xs) ts = of_entry x (spelled_entries xs ts) ∙ of_entries xs ts

mutual
  of_command : (c : Command) (ts : Ts) → any_left_out (spelled_command c ts) ≡ any_left_out ts
  of_command (bracket rs) ts = of_rows rs (t.close_ ∷ ts)
  of_command (simple_ s) ts = past (t.simple s) ts (simply s)
  of_command (literal_ q) ts = refl
  of_command (name_ n) ts = refl
  of_command (non_ true n) ts = refl
  of_command (non_ false n) ts = refl
  of_command (prefixed p c) ts = past (t.prefix p) (spelled_command c ts) (before p) ∙ of_command c ts
  of_command (counted n e c) ts = past (t.count n) (spelled_expression e (spelled_command c ts)) (counting n) ∙ of_expression e (spelled_command c ts) ∙ of_command c ts
  of_command (move_ m e) ts = past (t.move m) (spelled_expression e ts) (moving m) ∙ of_expression e ts
  of_command (named x n) ts = past (t.naming x) (t.name n ∷ ts) (naming_ x)
  of_command (splice_ x a) ts = past (t.edit x) (argument_terminal a ∷ ts) (splicing x) ∙ past (argument_terminal a) ts (arguing a)
  of_command (setlimit_ b c) ts = of_command b (t.for_ ∷ spelled_command c ts) ∙ of_command c ts
  of_command (assign_ n o e) ts = past (t.assigns o) (spelled_expression e ts) (assigning o) ∙ of_expression e ts
  of_command (compare_ n o e) ts = past (t.compares o) (spelled_expression e ts) (comparing o) ∙ of_expression e ts
  of_command (compare_values_ e o f) ts =
      of_expression e (t.compares o ∷ spelled_expression f (t.close_ ∷ ts)) ∙ past (t.compares o) (spelled_expression f (t.close_ ∷ ts)) (comparing o) ∙ of_expression f (t.close_ ∷ ts)
  of_command (among_ x gs) ts = of_starter x (spelled_groups gs (t.close_ ∷ ts)) ∙ of_groups gs (t.close_ ∷ ts)

  of_rows : (rs : Rows) (ts : Ts) → any_left_out (spelled_rows rs ts) ≡ any_left_out ts
  of_rows no_rows ts = refl
  of_rows (row c os rs) ts = of_command c (spelled_others os (spelled_rows rs ts)) ∙ of_others os (spelled_rows rs ts) ∙ of_rows rs ts

  of_others : (os : Others) (ts : Ts) → any_left_out (spelled_others os ts) ≡ any_left_out ts
  of_others no_others ts = refl
  of_others (joined j c os) ts = past (t.joiner j) (spelled_command c (spelled_others os ts)) (joining j) ∙ of_command c (spelled_others os ts) ∙ of_others os ts

  of_starter : (x : Starter) (ts : Ts) → any_left_out (spelled_starter x ts) ≡ any_left_out ts
  of_starter no_starter ts = refl
  of_starter (starter rs) ts = of_rows rs (t.close_ ∷ ts)

  of_groups : (gs : Groups) (ts : Ts) → any_left_out (spelled_groups gs ts) ≡ any_left_out ts
  of_groups (bare es) ts = of_entries es ts
  of_groups (group e es rs gs) ts =
      of_entry e (spelled_entries es (t.open_ ∷ spelled_rows rs (t.close_ ∷ spelled_groups gs ts))) ∙ of_entries es (t.open_ ∷ spelled_rows rs (t.close_ ∷ spelled_groups gs ts))
      ∙ of_rows rs (t.close_ ∷ spelled_groups gs ts) ∙ of_groups gs ts

of_names : (ns : List (List ℕ)) (ts : Ts) → any_left_out (spelled_names ns ts) ≡ any_left_out ts
of_names [] ts = refl
of_names (n ∷ ns) ts = of_names ns ts

of_base : (b : Option Base) (ts : Ts) → any_left_out (spelled_base b ts) ≡ any_left_out ts
of_base None ts = refl
of_base (Some b) ts = past (t.base b) ts (offered_base b)

of_terms : (xs : List Term) (ts : Ts) → any_left_out (spelled_terms xs ts) ≡ any_left_out ts
of_terms [] ts = refl
of_terms (term o a ∷ xs) ts = past (t.additive o) (argument_terminal a ∷ spelled_terms xs ts) (adding o) ∙ past (argument_terminal a) (spelled_terms xs ts) (arguing a) ∙ of_terms xs ts

of_plain : (p : Plain) (ts : Ts) → any_left_out (spelled_plain p ts) ≡ any_left_out ts
of_plain (declaration k ns) ts = past (t.declares k) (t.open_ ∷ spelled_names ns (t.close_ ∷ ts)) (offered_declaration k) ∙ of_names ns (t.close_ ∷ ts)
of_plain (escapes a b) ts = refl
of_plain (macro n b q) ts = of_base b (t.literal q ∷ ts)
of_plain (routine n c os) ts = of_command c (spelled_others os ts) ∙ of_others os ts
of_plain (grouping n a xs) ts = past (argument_terminal a) (spelled_terms xs ts) (arguing a) ∙ of_terms xs ts

of_plains : (ps : List Plain) (ts : Ts) → any_left_out (spelled_plains ps ts) ≡ any_left_out ts
of_plains [] ts = refl
of_plains (p ∷ ps) ts = of_plain p (spelled_plains ps ts) ∙ of_plains ps ts

none_in : (items : List Item) → any_left_out (script_tokens items) ≡ false
none_in [] = refl
none_in (plain p ∷ is) = of_plain p (spelled_items is []) ∙ none_in is
none_in (backward ps ∷ is) = of_plains ps (t.close_ ∷ spelled_items is []) ∙ none_in is

pub none_left_out : (items : List Item) → list_any is_left_out (lexemes_of items) ≡ false
none_left_out items = ap (list_any is_left_out) (text_lexed script items ∙ ap (map lexeme_as) (places_tokens items)) ∙ none_in items
