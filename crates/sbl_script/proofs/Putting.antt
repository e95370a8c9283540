-- What holds of each token of a routine's body and of an among holds of each token of the body with that among in the place of another.
use Rattle.std.proofs.Common.{ℕ, ◌+◌, ◌-◌, Bool, true, false, nat_eq, List, [], ◌∷◌, ◌++◌, if◌then◌else◌, sym, subst}
use Rattle.std.specs.List.{AllByRecursion}
use Rattle.sbl_token.specs.Lexemes as lex
use Rattle.sbl_token.specs.declared.words.Word.TheVariants as words
use Rattle.sbl_token.specs.declared.signs.Sign.TheVariants as signs
use Rattle.sbl_ast.specs.Tree.{Command, bracket, simple_, literal_, name_, non_, prefixed, counted, move_, named, splice_, setlimit_, assign_, compare_, compare_values_, among_, Rows, no_rows, row, Others, no_others, joined, Starter, no_starter, starter, Groups, bare, group}
use Rattle.sbl_ast.specs.Counts.{count_amongs, count_in_rows, count_in_others, count_in_starter}
use Rattle.sbl_tree_amongs.specs.Amongs.{put_among, put_in_rows, put_in_others, put_in_starter, put_in_groups, put_in_body}
use Rattle.sbl_ast.specs.Places.{AtDepth, placed_command, placed_rows, placed_others, placed_starter, placed_groups, placed_entry, placed_entries, placed_expression}
use Rattle.sbl_ast.specs.Texts.{body, places_in}
use Rattle.sbl_ast.proofs.After.{IsBefore, entry_before, entries_before, expression_before, tree_before}

abbrev Ps : Type 0
Ps = List AtDepth

abbrev pub Each : (AtDepth → Type 0) → Ps → Type 0
Each P ps = AllByRecursion P ps

prefix : (P : AtDepth → Type 0) (ps qs : Ps) → Each P (ps ++ qs) → Each P ps
prefix P [] qs h = tt
prefix P (p ∷ ps) qs h = (h.0, prefix P ps qs h.1)

rest_of : (P : AtDepth → Type 0) (ps qs : Ps) → Each P (ps ++ qs) → Each P qs
rest_of P [] qs h = h
rest_of P (p ∷ ps) qs h = rest_of P ps qs h.1

both : (P : AtDepth → Type 0) (ps qs : Ps) → Each P ps → Each P qs → Each P (ps ++ qs)
both P [] qs h g = g
both P (p ∷ ps) qs h g = (h.0, both P ps qs h.1 g)

-- something else after a part, and another part before the same
following : (P : AtDepth → Type 0) (part : Ps → Ps) → IsBefore part → (r q : Ps) → (Each P r → Each P q) → Each P (part r) → Each P (part q)
following P part before r q f h =
    let whole = subst (Each P) (before [] r) h in
    subst (Each P) (sym (before [] q)) (both P (part []) q (prefix P (part []) r whole) (f (rest_of P (part []) r whole)))

instead : (P : AtDepth → Type 0) (part other : Ps → Ps) → IsBefore part → IsBefore other → (r q : Ps) → Each P (other []) → (Each P r → Each P q) → Each P (part r) → Each P (other q)
instead P part other before after r q o f h =
    subst (Each P) (sym (after [] q)) (both P (other []) q o (f (rest_of P (part []) r (subst (Each P) (before [] r) h))))

-- it holds of each token of an among, wherever that stands
abbrev pub HoldsIn : (AtDepth → Type 0) → Starter × Groups → Type 0
HoldsIn P a = (d : ℕ) → Each P (placed_command (among_ a.0 a.1) d [])

-- an among with the others inside it that are put there
holds_in_choice : (P : AtDepth → Type 0) (a : Starter × Groups) → HoldsIn P a → (s : Starter) (gs : Groups) (d k : ℕ) (r q : Ps) → (Each P r → Each P q) → Each P (placed_command (among_ s gs) d r)
    → Each P (placed_starter (put_in_starter s (k - 1) a) d (placed_groups (put_in_groups gs (k - 1 - count_in_starter s) a) d ((lex.sign signs.Close, d) ∷ q))) → Each P (placed_command (put_among (among_ s gs) k a) d q)
holds_in_choice P a o s gs d k r q f h inside = go (nat_eq k 1) where
  go : (b : Bool) → Each P (placed_command (if b then among_ a.0 a.1 else among_ (put_in_starter s (k - 1) a) (put_in_groups gs (k - 1 - count_in_starter s) a)) d q)
  go true = instead P (placed_command (among_ s gs) d) (placed_command (among_ a.0 a.1) d) (tree_before (among_ s gs) d) (tree_before (among_ a.0 a.1) d) r q (o d) f h
  go false = (h.0, (h.1.0, inside))

mutual
  tree_put : (P : AtDepth → Type 0) (a : Starter × Groups) → HoldsIn P a → (c : Command) (d k : ℕ) (r q : Ps) → (Each P r → Each P q) → Each P (placed_command c d r) → Each P (placed_command (put_among c k a) d q)
  tree_put P a o (bracket rs) d k r q f h = (h.0, rows_put P a o rs (d + 1) k ((lex.sign signs.Close, d) ∷ r) ((lex.sign signs.Close, d) ∷ q) (λ x. (x.0, f x.1)) h.1)
  tree_put P a o (simple_ x) d k r q f h = following P (placed_command (simple_ x) d) (tree_before (simple_ x) d) r q f h
  tree_put P a o (literal_ x) d k r q f h = following P (placed_command (literal_ x) d) (tree_before (literal_ x) d) r q f h
  tree_put P a o (name_ x) d k r q f h = following P (placed_command (name_ x) d) (tree_before (name_ x) d) r q f h
  tree_put P a o (non_ x y) d k r q f h = following P (placed_command (non_ x y) d) (tree_before (non_ x y) d) r q f h
  tree_put P a o (prefixed p c) d k r q f h = (h.0, tree_put P a o c (d + 1) k r q f h.1)
  tree_put P a o (counted n e c) d k r q f h =
      (h.0, following P (placed_expression e d) (expression_before e d) (placed_command c (d + 1) r) (placed_command (put_among c k a) (d + 1) q) (λ x. tree_put P a o c (d + 1) k r q f x) h.1)
  tree_put P a o (move_ x y) d k r q f h = following P (placed_command (move_ x y) d) (tree_before (move_ x y) d) r q f h
  tree_put P a o (named x y) d k r q f h = following P (placed_command (named x y) d) (tree_before (named x y) d) r q f h
  tree_put P a o (splice_ x y) d k r q f h = following P (placed_command (splice_ x y) d) (tree_before (splice_ x y) d) r q f h
  tree_put P a o (setlimit_ b c) d k r q f h =
      let m = k - count_amongs b in
      (h.0, tree_put P a o b (d + 1) k ((lex.word words.For, d) ∷ placed_command c (d + 1) r) ((lex.word words.For, d) ∷ placed_command (put_among c m a) (d + 1) q) (λ x. (x.0, tree_put P a o c (d + 1) m r q f x.1)) h.1)
  tree_put P a o (assign_ x y z) d k r q f h = following P (placed_command (assign_ x y z) d) (tree_before (assign_ x y z) d) r q f h
  tree_put P a o (compare_ x y z) d k r q f h = following P (placed_command (compare_ x y z) d) (tree_before (compare_ x y z) d) r q f h
  tree_put P a o (compare_values_ x y z) d k r q f h = following P (placed_command (compare_values_ x y z) d) (tree_before (compare_values_ x y z) d) r q f h
  tree_put P a o (among_ s gs) d k r q f h =
      let m = k - 1 - count_in_starter s in
      let old = (lex.sign signs.Close, d) ∷ r in
      let new = (lex.sign signs.Close, d) ∷ q in
      holds_in_choice P a o s gs d k r q f h (starter_put P a o s d (k - 1) (placed_groups gs d old) (placed_groups (put_in_groups gs m a) d new) (λ x. groups_put P a o gs d m old new (λ y. (y.0, f y.1)) x) h.1.1)

  rows_put : (P : AtDepth → Type 0) (a : Starter × Groups) → HoldsIn P a → (rs : Rows) (d k : ℕ) (r q : Ps) → (Each P r → Each P q) → Each P (placed_rows rs d r) → Each P (placed_rows (put_in_rows rs k a) d q)
  rows_put P a o no_rows d k r q f h = f h
  rows_put P a o (row c os rs) d k r q f h =
      let m = k - count_amongs c in
      let n = m - count_in_others os in
      let old = placed_rows rs d r in
      let new = placed_rows (put_in_rows rs n a) d q in
      tree_put P a o c d k (placed_others os d old) (placed_others (put_in_others os m a) d new) (λ x. others_put P a o os d m old new (λ y. rows_put P a o rs d n r q f y) x) h

  others_put : (P : AtDepth → Type 0) (a : Starter × Groups) → HoldsIn P a → (os : Others) (d k : ℕ) (r q : Ps) → (Each P r → Each P q) → Each P (placed_others os d r) → Each P (placed_others (put_in_others os k a) d q)
  others_put P a o no_others d k r q f h = f h
  others_put P a o (joined j c os) d k r q f h =
      let m = k - count_amongs c in
      (h.0, tree_put P a o c d k (placed_others os d r) (placed_others (put_in_others os m a) d q) (λ x. others_put P a o os d m r q f x) h.1)

  starter_put : (P : AtDepth → Type 0) (a : Starter × Groups) → HoldsIn P a → (s : Starter) (d k : ℕ) (r q : Ps) → (Each P r → Each P q) → Each P (placed_starter s d r) → Each P (placed_starter (put_in_starter s k a) d q)
  starter_put P a o no_starter d k r q f h = f h
  starter_put P a o (starter rs) d k r q f h = (h.0, rows_put P a o rs (d + 1 + 1) k ((lex.sign signs.Close, d + 1) ∷ r) ((lex.sign signs.Close, d + 1) ∷ q) (λ x. (x.0, f x.1)) h.1)

  groups_put : (P : AtDepth → Type 0) (a : Starter × Groups) → HoldsIn P a → (gs : Groups) (d k : ℕ) (r q : Ps) → (Each P r → Each P q) → Each P (placed_groups gs d r) → Each P (placed_groups (put_in_groups gs k a) d q)
  groups_put P a o (bare es) d k r q f h = following P (placed_entries es d) (entries_before es d) r q f h
  groups_put P a o (group e es rs gs) d k r q f h =
      let m = k - count_in_rows rs in
      let old = (lex.sign signs.Close, d + 1) ∷ placed_groups gs d r in
      let new = (lex.sign signs.Close, d + 1) ∷ placed_groups (put_in_groups gs m a) d q in
      let before = (lex.sign signs.Open, d + 1) ∷ placed_rows rs (d + 1 + 1) old in
      let after = (lex.sign signs.Open, d + 1) ∷ placed_rows (put_in_rows rs k a) (d + 1 + 1) new in
      following P (placed_entry e d) (entry_before e d) (placed_entries es d before) (placed_entries es d after)
      (λ x. following P (placed_entries es d) (entries_before es d) before after (λ y. (y.0, rows_put P a o rs (d + 1 + 1) k old new (λ z. (z.0, groups_put P a o gs d m r q f z.1)) y.1)) x) h

pub body_put : (P : AtDepth → Type 0) (a : Starter × Groups) → HoldsIn P a → (b : Command × Others) (k : ℕ) → Each P (places_in body b) → Each P (places_in body (put_in_body b k a))
body_put P a o b k h =
    let m = k - count_amongs b.0 in
    tree_put P a o b.0 1 k (placed_others b.1 1 []) (placed_others (put_in_others b.1 m a) 1 []) (λ x. others_put P a o b.1 1 m [] [] (λ y. y) x) h
