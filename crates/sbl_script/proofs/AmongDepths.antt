-- The amongs of a routine's body, and the words `among` of its tokens.
use Rattle.std.proofs.Common.{◌≡◌, ℕ, ◌+◌, ◌-◌, Bool, true, false, nat_eq, cond, List, [], ◌∷◌, ◌++◌, length, map, Option, Some, None, option_map, if◌then◌else◌, ◌≤◌, refl, sym, ap, ◌∙◌, arith}
use Rattle.std.specs.List.{enumerate_from, filter, find}
use Rattle.std.proofs.lemmas.Bool.{eqb-true, ne_eqb, true≢false}
use Rattle.std.proofs.lemmas.Bool.Decides.{nat_tests}
use Rattle.sbl_ast.specs.Counts.{count_amongs, count_in_rows, count_in_others, count_in_starter, count_in_groups, count_in_among}
use Rattle.sbl_ast.specs.Places.{AtDepth, placed_command, placed_rows, placed_others, placed_starter, placed_groups, placed_entry, placed_entries, placed_expression, placed_sums, placed_product, placed_scales, placed_factor}
use Rattle.sbl_ast.specs.Texts.{Text, body, places_in}
use Rattle.sbl_ast.specs.Texts as texts
use Rattle.sbl_token.specs.Lexemes as lex
use Rattle.sbl_token.specs.declared.words.Word.TheVariants as words
use Rattle.sbl_token.specs.declared.signs.Sign.TheVariants as signs
use Rattle.sbl_token.specs.Lexemes.{Lexeme}
use Rattle.sbl_ast.specs.Symbols as t
use Rattle.sbl_ast.specs.Tree.{Argument, written_out, by_name, Expression, expression, Sums, no_sums, sum, Product, product, Scales, no_scales, scale, Factor, negated, bracketed, fixed, length_of, Entry, entry, Command, bracket, simple_, literal_, name_, non_, prefixed, counted, move_, named, splice_, setlimit_, assign_, compare_, compare_values_, among_, Rows, no_rows, row, Others, no_others, joined, Starter, no_starter, starter, Groups, bare, group}
use Rattle.sbl_ast.specs.View.{RowView}
use Rattle.sbl_tree_amongs.specs.Amongs.{AmongContents, amongs, amongs_of_rows, amongs_of_others, amongs_of_starter, amongs_of_groups, amongs_of_body, nth_held, put_in_body}
use Rattle.sbl_tree_amongs.specs.Replacement.{is_among}
use Rattle.sbl_tree_amongs.proofs.Words.{additive_other, assigns_other, compares_other, constant_other, count_other, joiner_other, move_other, multiplicative_other, naming_other, prefix_other, simple_other, splice_other}
use Rattle.sbl_tree_amongs.proofs.Held.{none_is_first}
use Rattle.sbl_tree_amongs.proofs.Swapped.{body_one}
use Rattle.sbl_script.specs.Edits.{among_depths}

abbrev Ps : Type 0
Ps = List AtDepth

abbrev Hs : Type 0
Hs = List AmongContents

abbrev D : Ps → List ℕ
D ps = among_depths ps

abbrev depths : Hs → List ℕ
depths hs = map (λ h. h.0) hs

-- a token that is not the word
depths_after_other : (x : Lexeme) (d : ℕ) (r : Ps) → is_among x ≡ false → D ((x, d) ∷ r) ≡ D r
depths_after_other x d r h = ap (λ (b : Bool). map (λ (p : AtDepth). p.1) (cond b ((x, d) ∷ filter (λ (p : AtDepth). is_among p.0) r) (filter (λ (p : AtDepth). is_among p.0) r))) h

-- ---- parts without the word

argument_q : (x : Argument) (d : ℕ) (r : Ps) → D ((t.argument x, d) ∷ r) ≡ D r
argument_q (written_out q) d r = refl
argument_q (by_name n) d r = refl

mutual
  expression_q : (x : Expression) (d : ℕ) (r : Ps) → D (placed_expression x d r) ≡ D r
  expression_q (expression p ss) d r = product_q p d (placed_sums ss d r) ∙ sums_q ss d r

  sums_q : (ss : Sums) (d : ℕ) (r : Ps) → D (placed_sums ss d r) ≡ D r
  sums_q no_sums d r = refl
  sums_q (sum o p ss) d r = depths_after_other (t.additive o) d (placed_product p d (placed_sums ss d r)) (additive_other o) ∙ product_q p d (placed_sums ss d r) ∙ sums_q ss d r

  product_q : (p : Product) (d : ℕ) (r : Ps) → D (placed_product p d r) ≡ D r
  product_q (product f ss) d r = factor_q f d (placed_scales ss d r) ∙ scales_q ss d r

  scales_q : (ss : Scales) (d : ℕ) (r : Ps) → D (placed_scales ss d r) ≡ D r
  scales_q no_scales d r = refl
  scales_q (scale o f ss) d r = depths_after_other (t.multiplicative o) d (placed_factor f d (placed_scales ss d r)) (multiplicative_other o) ∙ factor_q f d (placed_scales ss d r) ∙ scales_q ss d r

  factor_q : (f : Factor) (d : ℕ) (r : Ps) → D (placed_factor f d r) ≡ D r
  factor_q (negated f) d r = factor_q f (d + 1) r
  factor_q (bracketed x) d r = expression_q x (d + 1) ((lex.sign signs.Close, d + 1) ∷ r)
  factor_q (fixed c) d r = depths_after_other (t.constant c) d r (constant_other c)
  factor_q (length_of x) d r = argument_q x d r
  factor_q _ d r = refl

entry_q : (x : Entry) (d : ℕ) (r : Ps) → D (placed_entry x d r) ≡ D r
entry_q (entry q None) d r = refl
entry_q (entry q (Some n)) d r = refl

entries_q : (xs : List Entry) (d : ℕ) (r : Ps) → D (placed_entries xs d r) ≡ D r
entries_q [] d r = refl
entries_q (x ∷ xs) d r = entry_q x d (placed_entries xs d r) ∙ entries_q xs d r

-- ---- the depths of the amongs are those of the words

mutual
  tree_d : (c : Command) (d : ℕ) (hs : Hs) (r : Ps) → depths hs ≡ D r → depths (amongs c d hs) ≡ D (placed_command c d r)
  tree_d (bracket rs) d hs r e = rows_d rs (d + 1) hs ((lex.sign signs.Close, d) ∷ r) e
  tree_d (simple_ x) d hs r e = e ∙ sym (depths_after_other (t.simple x) d r (simple_other x))
  tree_d (literal_ x) d hs r e = e
  tree_d (name_ x) d hs r e = e
  tree_d (non_ true y) d hs r e = e
  tree_d (non_ false y) d hs r e = e
  tree_d (prefixed p c) d hs r e = tree_d c (d + 1) hs r e ∙ sym (depths_after_other (t.prefix p) d (placed_command c (d + 1) r) (prefix_other p))
  tree_d (counted n x c) d hs r e =
      let rest = placed_command c (d + 1) r in
      tree_d c (d + 1) hs r e ∙ sym (depths_after_other (t.count n) d (placed_expression x d rest) (count_other n) ∙ expression_q x d rest)
  tree_d (move_ x y) d hs r e = e ∙ sym (depths_after_other (t.move x) d (placed_expression y d r) (move_other x) ∙ expression_q y d r)
  tree_d (named x y) d hs r e = e ∙ sym (depths_after_other (t.naming x) d ((lex.name y, d) ∷ r) (naming_other x))
  tree_d (splice_ x y) d hs r e = e ∙ sym (depths_after_other (t.splice x) d ((t.argument y, d) ∷ r) (splice_other x) ∙ argument_q y d r)
  tree_d (setlimit_ b c) d hs r e = tree_d b (d + 1) (amongs c (d + 1) hs) ((lex.word words.For, d) ∷ placed_command c (d + 1) r) (tree_d c (d + 1) hs r e)
  tree_d (assign_ x y z) d hs r e = e ∙ sym (depths_after_other (t.assigns y) d (placed_expression z d r) (assigns_other y) ∙ expression_q z d r)
  tree_d (compare_ x y z) d hs r e = e ∙ sym (depths_after_other (t.compares y) d (placed_expression z d r) (compares_other y) ∙ expression_q z d r)
  tree_d (compare_values_ x y z) d hs r e = e ∙ sym (expression_q x d ((t.compares y, d) ∷ placed_expression z d ((lex.sign signs.Close, d) ∷ r)) ∙ depths_after_other (t.compares y) d (placed_expression z d ((lex.sign signs.Close, d) ∷ r)) (compares_other y) ∙ expression_q z d ((lex.sign signs.Close, d) ∷ r))
  tree_d (among_ s gs) d hs r e =
      let rest = (lex.sign signs.Close, d) ∷ r in
      ap (λ (l : List ℕ). d ∷ l) (starter_d s d (amongs_of_groups gs d hs) (placed_groups gs d rest) (groups_d gs d hs rest e))

  rows_d : (rs : Rows) (d : ℕ) (hs : Hs) (r : Ps) → depths hs ≡ D r → depths (amongs_of_rows rs d hs) ≡ D (placed_rows rs d r)
  rows_d no_rows d hs r e = e
  rows_d (row c os rs) d hs r e =
      tree_d c d (amongs_of_others os d (amongs_of_rows rs d hs)) (placed_others os d (placed_rows rs d r)) (others_d os d (amongs_of_rows rs d hs) (placed_rows rs d r) (rows_d rs d hs r e))

  others_d : (os : Others) (d : ℕ) (hs : Hs) (r : Ps) → depths hs ≡ D r → depths (amongs_of_others os d hs) ≡ D (placed_others os d r)
  others_d no_others d hs r e = e
  others_d (joined j c os) d hs r e =
      let rest = placed_others os d r in
      tree_d c d (amongs_of_others os d hs) rest (others_d os d hs r e) ∙ sym (depths_after_other (t.joiner j) d (placed_command c d rest) (joiner_other j))

  starter_d : (s : Starter) (d : ℕ) (hs : Hs) (r : Ps) → depths hs ≡ D r → depths (amongs_of_starter s d hs) ≡ D (placed_starter s d r)
  starter_d no_starter d hs r e = e
  starter_d (starter rs) d hs r e = rows_d rs (d + 1 + 1) hs ((lex.sign signs.Close, d + 1) ∷ r) e

  groups_d : (gs : Groups) (d : ℕ) (hs : Hs) (r : Ps) → depths hs ≡ D r → depths (amongs_of_groups gs d hs) ≡ D (placed_groups gs d r)
  groups_d (bare es) d hs r e = e ∙ sym (entries_q es d r)
  groups_d (group x es rs gs) d hs r e =
      let inner = (lex.sign signs.Close, d + 1) ∷ placed_groups gs d r in
      let opened = (lex.sign signs.Open, d + 1) ∷ placed_rows rs (d + 1 + 1) inner in
      rows_d rs (d + 1 + 1) (amongs_of_groups gs d hs) inner (groups_d gs d hs r e) ∙ sym (entry_q x d (placed_entries es d opened) ∙ entries_q es d opened)

body_d : (b : RowView) → depths (amongs_of_body b) ≡ among_depths (places_in body b)
body_d b = tree_d b.0 1 (amongs_of_others b.1 1 []) (placed_others b.1 1 []) (others_d b.1 1 [] [] refl)

-- ---- the among with a number

self : (n : ℕ) → nat_eq n n ≡ true
self n = grind (arith, nat_tests)

pub same_test : (u v x y : ℕ) → (u ≡ v → x ≡ y) → (x ≡ y → u ≡ v) → nat_eq u v ≡ nat_eq x y
same_test u v x y f g = go (nat_eq x y) refl where
  go : (b : Bool) → nat_eq x y ≡ b → nat_eq u v ≡ b
  go true e = ap (λ z. nat_eq u z) (sym (g (eqb-true x y e))) ∙ self u
  go false e = ne_eqb u v (λ h. let same : x ≡ y = f h in true≢false (sym (ap (nat_eq x) (sym same) ∙ self x) ∙ e))

abbrev text_at : Option (ℕ × ℕ) → Option Text
text_at o = option_map (λ p. texts.among p.1) o

abbrev text_of : Option AmongContents → Option Text
text_of o = option_map (λ (h : AmongContents). texts.among h.0) o

abbrev IsNumbered : Hs → ℕ → ℕ → Type 0
IsNumbered hs m j = text_at (find (λ p. nat_eq p.0 (m + j)) (enumerate_from m (depths hs))) ≡ text_of (nth_held (j + 1) hs)

find_numbered : (hs : Hs) (m j : ℕ) → IsNumbered hs m j
find_numbered [] m j = refl
find_numbered (h ∷ hs) m j = go (nat_eq m (m + j)) (nat_eq (j + 1) 1) (same_test m (m + j) (j + 1) 1 (λ e. omega (arith, e)) (λ e. omega (arith, e))) refl (find_numbered hs (m + 1) (j - 1)) where
  later : 1 ≤ j → IsNumbered hs (m + 1) (j - 1) → text_at (find (λ p. nat_eq p.0 (m + j)) (enumerate_from (m + 1) (depths hs))) ≡ text_of (nth_held (j + 1 - 1) hs)
  later e rest =
      let one : m + j ≡ m + 1 + (j - 1) = omega (arith, e) in
      let two : j - 1 + 1 ≡ j + 1 - 1 = omega (arith, e) in
      ap (λ z. text_at (find (λ p. nat_eq p.0 z) (enumerate_from (m + 1) (depths hs)))) one ∙ rest ∙ ap (λ z. text_of (nth_held z hs)) two

  some : nat_eq m (m + j) ≡ false → 1 ≤ j
  some e = grind (arith, nat_tests, e)

  go : (x y : Bool) → x ≡ y → nat_eq m (m + j) ≡ x → IsNumbered hs (m + 1) (j - 1) → text_at (cond x (Some (m, h.0)) (find (λ p. nat_eq p.0 (m + j)) (enumerate_from (m + 1) (depths hs)))) ≡ text_of (if y then Some h else nth_held (j + 1 - 1) hs)
  go true true e f rest = refl
  go false false e f rest = later (some f) rest
  go true false e f rest = absurd cc
  go false true e f rest = absurd cc

never : (ds : List ℕ) (m : ℕ) → find (λ p. nat_eq p.0 0) (enumerate_from (m + 1) ds) ≡ None
never [] m = refl
never (d ∷ ds) m = ap (λ b. cond b (Some (m + 1, d)) (find (λ p. nat_eq p.0 0) (enumerate_from (m + 1 + 1) ds))) (not_none m) ∙ never ds (m + 1) where
  not_none : (n : ℕ) → nat_eq (n + 1) 0 ≡ false
  not_none n = grind (arith, nat_tests)

-- the text that is read in place of the among with a number is one at its depth
pub text_same : (b : RowView) (k : ℕ) → text_at (find (λ p. nat_eq p.0 k) (enumerate_from 1 (among_depths (places_in body b)))) ≡ text_of (nth_held k (amongs_of_body b))
text_same b k = ap (λ ds. text_at (find (λ p. nat_eq p.0 k) (enumerate_from 1 ds))) (sym (body_d b)) ∙ go (nat_eq k 0) refl where
  go : (x : Bool) → nat_eq k 0 ≡ x → text_at (find (λ p. nat_eq p.0 k) (enumerate_from 1 (depths (amongs_of_body b)))) ≡ text_of (nth_held k (amongs_of_body b))
  go true e =
      let is : k ≡ 0 = eqb-true k 0 e in
      ap (λ z. text_at (find (λ p. nat_eq p.0 z) (enumerate_from 1 (depths (amongs_of_body b))))) is ∙ ap text_at (never (depths (amongs_of_body b)) 0)
      ∙ sym (ap text_of (ap (λ z. nth_held z (amongs_of_body b)) is ∙ none_is_first (amongs_of_body b)))
  go false e =
      let some : 1 ≤ k = grind (arith, nat_tests, e) in
      let one : k ≡ 1 + (k - 1) = omega (arith, some) in
      let two : k - 1 + 1 ≡ k = omega (arith, some) in
      ap (λ z. text_at (find (λ p. nat_eq p.0 z) (enumerate_from 1 (depths (amongs_of_body b))))) one ∙ find_numbered (amongs_of_body b) 1 (k - 1) ∙ ap (λ z. text_of (nth_held z (amongs_of_body b))) two

-- ---- how many

abbrev pub N : Ps → ℕ
N ps = length (D ps)

mutual
  tree_n : (c : Command) (d : ℕ) (r : Ps) → N (placed_command c d r) ≡ count_amongs c + N r
  tree_n (bracket rs) d r = rows_n rs (d + 1) ((lex.sign signs.Close, d) ∷ r)
  tree_n (simple_ x) d r = let q = ap length (depths_after_other (t.simple x) d r (simple_other x)) in omega (arith, q)
  tree_n (literal_ x) d r = omega arith
  tree_n (name_ x) d r = omega arith
  tree_n (non_ true y) d r = omega arith
  tree_n (non_ false y) d r = omega arith
  tree_n (prefixed p c) d r = ap length (depths_after_other (t.prefix p) d (placed_command c (d + 1) r) (prefix_other p)) ∙ tree_n c (d + 1) r
  tree_n (counted n x c) d r =
      let rest = placed_command c (d + 1) r in
      ap length (depths_after_other (t.count n) d (placed_expression x d rest) (count_other n) ∙ expression_q x d rest) ∙ tree_n c (d + 1) r
  tree_n (move_ x y) d r = let q = ap length (depths_after_other (t.move x) d (placed_expression y d r) (move_other x) ∙ expression_q y d r) in omega (arith, q)
  tree_n (named x y) d r = let q = ap length (depths_after_other (t.naming x) d ((lex.name y, d) ∷ r) (naming_other x)) in omega (arith, q)
  tree_n (splice_ x y) d r = let q = ap length (depths_after_other (t.splice x) d ((t.argument y, d) ∷ r) (splice_other x) ∙ argument_q y d r) in omega (arith, q)
  tree_n (setlimit_ b c) d r =
      let x = tree_n b (d + 1) ((lex.word words.For, d) ∷ placed_command c (d + 1) r) in
      let y = tree_n c (d + 1) r in
      omega (arith, x, y)
  tree_n (assign_ x y z) d r = let q = ap length (depths_after_other (t.assigns y) d (placed_expression z d r) (assigns_other y) ∙ expression_q z d r) in omega (arith, q)
  tree_n (compare_ x y z) d r = let q = ap length (depths_after_other (t.compares y) d (placed_expression z d r) (compares_other y) ∙ expression_q z d r) in omega (arith, q)
  tree_n (compare_values_ x y z) d r =
      let second = placed_expression z d ((lex.sign signs.Close, d) ∷ r) in
      let q = ap length (expression_q x d ((t.compares y, d) ∷ second) ∙ depths_after_other (t.compares y) d second (compares_other y) ∙ expression_q z d ((lex.sign signs.Close, d) ∷ r)) in
      omega (arith, q)
  tree_n (among_ s gs) d r =
      let rest = (lex.sign signs.Close, d) ∷ r in
      let x = starter_n s d (placed_groups gs d rest) in
      let y = groups_n gs d rest in
      omega (arith, x, y)

  rows_n : (rs : Rows) (d : ℕ) (r : Ps) → N (placed_rows rs d r) ≡ count_in_rows rs + N r
  rows_n no_rows d r = omega arith
  rows_n (row c os rs) d r =
      let x = tree_n c d (placed_others os d (placed_rows rs d r)) in
      let y = others_n os d (placed_rows rs d r) in
      let z = rows_n rs d r in
      omega (arith, x, y, z)

  others_n : (os : Others) (d : ℕ) (r : Ps) → N (placed_others os d r) ≡ count_in_others os + N r
  others_n no_others d r = omega arith
  others_n (joined j c os) d r =
      let rest = placed_others os d r in
      let q = ap length (depths_after_other (t.joiner j) d (placed_command c d rest) (joiner_other j)) in
      let x = tree_n c d rest in
      let y = others_n os d r in
      omega (arith, q, x, y)

  starter_n : (s : Starter) (d : ℕ) (r : Ps) → N (placed_starter s d r) ≡ count_in_starter s + N r
  starter_n no_starter d r = omega arith
  starter_n (starter rs) d r = rows_n rs (d + 1 + 1) ((lex.sign signs.Close, d + 1) ∷ r)

  groups_n : (gs : Groups) (d : ℕ) (r : Ps) → N (placed_groups gs d r) ≡ count_in_groups gs + N r
  groups_n (bare es) d r = let q = ap length (entries_q es d r) in omega (arith, q)
  groups_n (group x es rs gs) d r =
      let inner = (lex.sign signs.Close, d + 1) ∷ placed_groups gs d r in
      let opened = (lex.sign signs.Open, d + 1) ∷ placed_rows rs (d + 1 + 1) inner in
      let q = ap length (entry_q x d (placed_entries es d opened) ∙ entries_q es d opened) in
      let y = rows_n rs (d + 1 + 1) inner in
      let z = groups_n gs d r in
      omega (arith, q, y, z)

pub both_n : (a b : Ps) → N (a ++ b) ≡ N a + N b
both_n [] b = omega arith
both_n (p ∷ a) b = go (is_among p.0) (both_n a b) where
  go : (here : Bool) → N (a ++ b) ≡ N a + N b → length (map (λ (x : AtDepth). x.1) (cond here (p ∷ filter (λ (x : AtDepth). is_among x.0) (a ++ b)) (filter (λ (x : AtDepth). is_among x.0) (a ++ b)))) ≡ length (map (λ (x : AtDepth). x.1) (cond here (p ∷ filter (λ (x : AtDepth). is_among x.0) a) (filter (λ (x : AtDepth). is_among x.0) a))) + N b
  go true e = omega (arith, e)
  go false e = omega (arith, e)

-- with another among as many words more as it holds
pub words_with : (b : RowView) (k : ℕ) (h : AmongContents) (a : Starter × Groups) → nth_held k (amongs_of_body b) ≡ Some h
    → N (places_in body (put_in_body b k a)) + count_in_among (h.1, h.2) ≡ N (places_in body b) + count_in_among a
words_with b k h a e =
    let two = body_one b k a h e in
    let was = ap N two.was ∙ both_n two.prefix (placed_command (among_ h.1 h.2) h.0 two.following) in
    let is = ap N two.is ∙ both_n two.prefix (placed_command (among_ a.0 a.1) h.0 two.following) in
    let old = tree_n (among_ h.1 h.2) h.0 two.following in
    let new = tree_n (among_ a.0 a.1) h.0 two.following in
    omega (arith, was, is, old, new)
