-- Where the tokens of an among end: at the first `)` of its depth.
use Rattle.std.proofs.Common.{◌≡◌, ℕ, ◌+◌, ◌<◌, ◌≤◌, Bool, true, false, ◌&&◌, nat_eq, if◌then◌else◌, List, [], ◌∷◌, Some, None, refl, sym, ap, ◌∙◌, arith}
use Rattle.std.proofs.lemmas.Bool.{ne_eqb}
use Rattle.std.proofs.lemmas.Bool.Decides.{nat_tests}
use Rattle.sbl_token.specs.Lexemes.{Lexeme, sign, word, name, number}
use Rattle.sbl_token.specs.declared.signs.Sign.TheVariants as signs
use Rattle.sbl_token.specs.declared.words.Word.TheVariants as words
use Rattle.sbl_ast.specs.Places.{AtDepth, placed_command, placed_rows, placed_others, placed_starter, placed_groups, placed_entry, placed_entries, placed_expression, placed_sums, placed_product, placed_scales, placed_factor}
use Rattle.sbl_ast.specs.Symbols as t
use Rattle.sbl_ast.specs.Tree.{Expression, expression, Sums, no_sums, sum, Product, product, Scales, no_scales, scale, Factor, negated, bracketed, numeral, variable, fixed, length_of, Entry, entry, Command, bracket, simple_, literal_, name_, non_, prefixed, counted, move_, named, splice_, setlimit_, assign_, compare_, compare_values_, among_, Rows, no_rows, row, Others, no_others, joined, Starter, no_starter, starter, Groups, bare, group}

abbrev Ps : Type 0
Ps = List AtDepth

abbrev is_close : Lexeme → Bool
is_close (sign signs.Close) = true
is_close _ = false

-- the tokens after the first `)` at depth d
abbrev ends : ℕ → Ps → Ps
ends d [] = []
ends d (p ∷ ps) = if (is_close p.0 && nat_eq p.1 d) then ps else ends d ps

and_false : (b : Bool) → (b && false) ≡ false
and_false true = refl
and_false false = refl

self : (d : ℕ) → nat_eq d d ≡ true
self d = grind (arith, nat_tests)

module _ (d : ℕ) where
  -- a token that is deeper
  deep : (x : Lexeme) (e : ℕ) (r : Ps) → d < e → ends d ((x, e) ∷ r) ≡ ends d r
  deep x e r h = ap (λ (b : Bool). if (is_close x && b) then r else ends d r) (ne_eqb e d (λ q. omega (arith, q, h))) ∙ ap (λ (b : Bool). if b then r else ends d r) (and_false (is_close x))

  up : (e : ℕ) → d < e → d < e + 1
  up e h = omega (arith, h)

  mutual
    expression_e : (x : Expression) (e : ℕ) (r : Ps) → d < e → ends d (placed_expression x e r) ≡ ends d r
    expression_e (expression p ss) e r h = product_e p e (placed_sums ss e r) h ∙ sums_e ss e r h

    sums_e : (ss : Sums) (e : ℕ) (r : Ps) → d < e → ends d (placed_sums ss e r) ≡ ends d r
    sums_e no_sums e r h = refl
    sums_e (sum o p ss) e r h = deep (t.additive o) e (placed_product p e (placed_sums ss e r)) h ∙ product_e p e (placed_sums ss e r) h ∙ sums_e ss e r h

    product_e : (p : Product) (e : ℕ) (r : Ps) → d < e → ends d (placed_product p e r) ≡ ends d r
    product_e (product f ss) e r h = factor_e f e (placed_scales ss e r) h ∙ scales_e ss e r h

    scales_e : (ss : Scales) (e : ℕ) (r : Ps) → d < e → ends d (placed_scales ss e r) ≡ ends d r
    scales_e no_scales e r h = refl
    scales_e (scale o f ss) e r h = deep (t.multiplicative o) e (placed_factor f e (placed_scales ss e r)) h ∙ factor_e f e (placed_scales ss e r) h ∙ scales_e ss e r h

    factor_e : (f : Factor) (e : ℕ) (r : Ps) → d < e → ends d (placed_factor f e r) ≡ ends d r
    factor_e (negated f) e r h = deep (sign signs.Minus) (e + 1) (placed_factor f (e + 1) r) (up e h) ∙ factor_e f (e + 1) r (up e h)
    factor_e (bracketed x) e r h =
        let close : Ps = (sign signs.Close, e + 1) ∷ r in
        deep (sign signs.Open) (e + 1) (placed_expression x (e + 1) close) (up e h) ∙ expression_e x (e + 1) close (up e h) ∙ deep (sign signs.Close) (e + 1) r (up e h)
    factor_e (numeral n) e r h = deep (number n) e r h
    factor_e (variable n) e r h = deep (name n) e r h
    factor_e (fixed c) e r h = deep (t.constant c) e r h
    factor_e (length_of a) e r h = deep (word words.LenOf) e ((t.argument a, e) ∷ r) h ∙ deep (t.argument a) e r h

  entry_e : (x : Entry) (e : ℕ) (r : Ps) → ends d (placed_entry x e r) ≡ ends d r
  entry_e (entry q None) e r = refl
  entry_e (entry q (Some n)) e r = refl

  entries_e : (xs : List Entry) (e : ℕ) (r : Ps) → ends d (placed_entries xs e r) ≡ ends d r
  entries_e [] e r = refl
  entries_e (x ∷ xs) e r = entry_e x e (placed_entries xs e r) ∙ entries_e xs e r

  mutual
    tree_e : (c : Command) (e : ℕ) (r : Ps) → d < e → ends d (placed_command c e r) ≡ ends d r
    tree_e (bracket rs) e r h =
        let close : Ps = (sign signs.Close, e) ∷ r in
        deep (sign signs.Open) e (placed_rows rs (e + 1) close) h ∙ rows_e rs (e + 1) close (up e h) ∙ deep (sign signs.Close) e r h
    tree_e (simple_ x) e r h = deep (t.simple x) e r h
    tree_e (literal_ q) e r h = deep (t.quoted_text q) e r h
    tree_e (name_ n) e r h = deep (name n) e r h
    tree_e (non_ true n) e r h = deep (word words.Non) e ((sign signs.Minus, e) ∷ (name n, e) ∷ r) h ∙ deep (sign signs.Minus) e ((name n, e) ∷ r) h ∙ deep (name n) e r h
    tree_e (non_ false n) e r h = deep (word words.Non) e ((name n, e) ∷ r) h ∙ deep (name n) e r h
    tree_e (prefixed p c) e r h = deep (t.prefix p) e (placed_command c (e + 1) r) h ∙ tree_e c (e + 1) r (up e h)
    tree_e (counted n x c) e r h =
        let inner = placed_command c (e + 1) r in
        deep (t.count n) e (placed_expression x e inner) h ∙ expression_e x e inner h ∙ tree_e c (e + 1) r (up e h)
    tree_e (move_ m x) e r h = deep (t.move m) e (placed_expression x e r) h ∙ expression_e x e r h
    tree_e (named x n) e r h = deep (t.naming x) e ((name n, e) ∷ r) h ∙ deep (name n) e r h
    tree_e (splice_ x a) e r h = deep (t.splice x) e ((t.argument a, e) ∷ r) h ∙ deep (t.argument a) e r h
    tree_e (setlimit_ b c) e r h =
        let inner = placed_command c (e + 1) r in
        deep (word words.SetLimit) e (placed_command b (e + 1) ((word words.For, e) ∷ inner)) h ∙ tree_e b (e + 1) ((word words.For, e) ∷ inner) (up e h) ∙ deep (word words.For) e inner h ∙ tree_e c (e + 1) r (up e h)
    tree_e (assign_ n o x) e r h =
        let inner = placed_expression x e r in
        deep (sign signs.Dollar) e ((name n, e) ∷ (t.assigns o, e) ∷ inner) h ∙ deep (name n) e ((t.assigns o, e) ∷ inner) h ∙ deep (t.assigns o) e inner h ∙ expression_e x e r h
    tree_e (compare_ n o x) e r h =
        let inner = placed_expression x e r in
        deep (sign signs.Dollar) e ((name n, e) ∷ (t.compares o, e) ∷ inner) h ∙ deep (name n) e ((t.compares o, e) ∷ inner) h ∙ deep (t.compares o) e inner h ∙ expression_e x e r h
    tree_e (compare_values_ x o y) e r h =
        let close : Ps = (sign signs.Close, e) ∷ r in
        let second = placed_expression y e close in
        let first = placed_expression x e ((t.compares o, e) ∷ second) in
        deep (sign signs.Dollar) e ((sign signs.Open, e) ∷ first) h ∙ deep (sign signs.Open) e first h ∙ expression_e x e ((t.compares o, e) ∷ second) h ∙ deep (t.compares o) e second h ∙ expression_e y e close h ∙ deep (sign signs.Close) e r h
    tree_e (among_ s gs) e r h =
        let close : Ps = (sign signs.Close, e) ∷ r in
        let groups = placed_groups gs e close in
        deep (word words.Among) e ((sign signs.Open, e) ∷ placed_starter s e groups) h ∙ deep (sign signs.Open) e (placed_starter s e groups) h
        ∙ starter_e s e groups (omega (arith, h)) ∙ groups_e gs e close (omega (arith, h)) ∙ deep (sign signs.Close) e r h

    rows_e : (rs : Rows) (e : ℕ) (r : Ps) → d < e → ends d (placed_rows rs e r) ≡ ends d r
    rows_e no_rows e r h = refl
    rows_e (row c os rs) e r h = tree_e c e (placed_others os e (placed_rows rs e r)) h ∙ others_e os e (placed_rows rs e r) h ∙ rows_e rs e r h

    others_e : (os : Others) (e : ℕ) (r : Ps) → d < e → ends d (placed_others os e r) ≡ ends d r
    others_e no_others e r h = refl
    others_e (joined j c os) e r h = deep (t.joiner j) e (placed_command c e (placed_others os e r)) h ∙ tree_e c e (placed_others os e r) h ∙ others_e os e r h

    starter_e : (s : Starter) (e : ℕ) (r : Ps) → d ≤ e → ends d (placed_starter s e r) ≡ ends d r
    starter_e no_starter e r h = refl
    starter_e (starter rs) e r h =
        let close : Ps = (sign signs.Close, e + 1) ∷ r in
        deep (sign signs.Open) (e + 1) (placed_rows rs (e + 1 + 1) close) (omega (arith, h)) ∙ rows_e rs (e + 1 + 1) close (omega (arith, h)) ∙ deep (sign signs.Close) (e + 1) r (omega (arith, h))

    groups_e : (gs : Groups) (e : ℕ) (r : Ps) → d ≤ e → ends d (placed_groups gs e r) ≡ ends d r
    groups_e (bare es) e r h = entries_e es e r
    groups_e (group x es rs gs) e r h =
        let rest = placed_groups gs e r in
        let close : Ps = (sign signs.Close, e + 1) ∷ rest in
        let rows = placed_rows rs (e + 1 + 1) close in
        let opened : Ps = (sign signs.Open, e + 1) ∷ rows in
        entry_e x e (placed_entries es e opened) ∙ entries_e es e opened ∙ deep (sign signs.Open) (e + 1) rows (omega (arith, h)) ∙ rows_e rs (e + 1 + 1) close (omega (arith, h)) ∙ deep (sign signs.Close) (e + 1) rest (omega (arith, h)) ∙ groups_e gs e r h

-- the tokens of an among after the word, and those after it
abbrev pub inside : Starter × Groups → ℕ → Ps → Ps
inside a d r = (sign signs.Open, d) ∷ placed_starter a.0 d (placed_groups a.1 d ((sign signs.Close, d) ∷ r))

after_is : (a : Starter × Groups) (d : ℕ) (r : Ps) → ends d (inside a d r) ≡ r
after_is a d r =
    let close : Ps = (sign signs.Close, d) ∷ r in
    starter_e d a.0 d (placed_groups a.1 d close) (omega arith) ∙ groups_e d a.1 d close (omega arith) ∙ ap (λ (b : Bool). if b then r else ends d r) (self d)

-- what follows an among is known from the tokens
pub after_same : (d : ℕ) (a b : Starter × Groups) (r q : Ps) → inside a d r ≡ inside b d q → r ≡ q
after_same d a b r q e = sym (after_is a d r) ∙ ap (ends d) e ∙ after_is b d q
