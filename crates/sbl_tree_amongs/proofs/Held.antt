-- The among with a number, part by part: those of a part come before those after it.
use Rattle.std.proofs.Common.{◌≡◌, ℕ, zero, suc, ◌+◌, ◌-◌, Bool, true, false, nat_eq, List, [], ◌∷◌, Some, None, if◌then◌else◌, refl, sym, ap, ◌∙◌, arith}
use Rattle.std.proofs.lemmas.Bool.{ne_eqb}
use Rattle.sbl_token.specs.Lexemes as lex
use Rattle.sbl_token.specs.declared.words.Word.TheVariants as words
use Rattle.sbl_token.specs.declared.signs.Sign.TheVariants as signs
use Rattle.sbl_ast.specs.Tree.{Command, bracket, simple_, literal_, name_, non_, prefixed, counted, move_, named, splice_, setlimit_, assign_, compare_, compare_values_, among_, Rows, no_rows, row, Others, no_others, joined, Starter, no_starter, starter, Groups, bare, group}
use Rattle.sbl_ast.specs.Counts.{count_amongs, count_in_rows, count_in_others, count_in_starter, count_in_groups}
use Rattle.sbl_tree_amongs.specs.Amongs.{FitsAt, AmongContents, amongs, amongs_of_rows, amongs_of_others, amongs_of_starter, amongs_of_groups, amongs_of_body, nth_held, put_among, put_in_rows, put_in_others, put_in_starter, put_in_groups, put_in_body}
use Rattle.sbl_ast.specs.Places.{placed_command, placed_rows, placed_others, placed_starter, placed_groups, placed_entry, placed_entries, placed_expression, AreShallow}
use Rattle.sbl_ast.specs.Texts.{body, places_in}
use Rattle.sbl_ast.proofs.After.{by_itself, after_it, with_after, entry_before, entries_before, expression_before, tree_before, rows_before, others_before, starter_before, groups_before}

abbrev Hs : Type 0
Hs = List AmongContents

-- ---- numbers

pub none_is_first : (hs : Hs) → nth_held 0 hs ≡ None
none_is_first [] = refl
none_is_first (h ∷ hs) = none_is_first hs

-- the one with a number after those that are so many
abbrev pub Counts : ℕ → (Hs → Hs) → Type 0
Counts n part = (rest : Hs) (k : ℕ) → nth_held (n + (1 + k)) (part rest) ≡ nth_held (1 + k) rest

moved_on : (n m k : ℕ) (hs : Hs) → n ≡ m → nth_held n hs ≡ nth_held m hs
moved_on n m k hs e = ap (λ (x : ℕ). nth_held x hs) e

-- one part and then another
both_count : (n m : ℕ) (part next : Hs → Hs) → Counts n part → Counts m next → Counts (n + m) (λ rest. part (next rest))
both_count n m part next a b rest k =
    moved_on (n + m + (1 + k)) (n + (1 + (m + k))) k (part (next rest)) (omega arith) ∙ a (next rest) (m + k) ∙ moved_on (1 + (m + k)) (m + (1 + k)) k (next rest) (omega arith) ∙ b rest k

-- one more before
one_more : (n : ℕ) (h : AmongContents) (hs : Hs) (k : ℕ) → nth_held (1 + n + (1 + k)) (h ∷ hs) ≡ nth_held (n + (1 + k)) hs
one_more n h hs k =
    ap (λ (b : Bool). if b then Some h else nth_held (1 + n + (1 + k) - 1) hs) (ne_eqb (1 + n + (1 + k)) 1 (λ e. omega (arith, e))) ∙ moved_on (1 + n + (1 + k) - 1) (n + (1 + k)) k hs (omega arith)

-- where none is counted
none_more : (hs : Hs) (k : ℕ) → nth_held (0 + (1 + k)) hs ≡ nth_held (1 + k) hs
none_more hs k = moved_on (0 + (1 + k)) (1 + k) k hs (omega arith)

next_is : (hs : Hs) (k : ℕ) → nth_held (1 + k) hs ≡ nth_held (suc k) hs
next_is hs k = moved_on (1 + k) (suc k) k hs (omega arith)

mutual
  pub tree_counts : (c : Command) (d : ℕ) → Counts (count_amongs c) (λ rest. amongs c d rest)
  tree_counts (bracket rs) d rest k = rows_count rs (d + 1) rest k
  tree_counts (simple_ x) d rest k = none_more rest k
  tree_counts (literal_ x) d rest k = none_more rest k
  tree_counts (name_ x) d rest k = none_more rest k
  tree_counts (non_ x y) d rest k = none_more rest k
  tree_counts (prefixed p c) d rest k = tree_counts c (d + 1) rest k
  tree_counts (counted n e c) d rest k = tree_counts c (d + 1) rest k
  tree_counts (move_ x y) d rest k = none_more rest k
  tree_counts (named x y) d rest k = none_more rest k
  tree_counts (splice_ x y) d rest k = none_more rest k
  tree_counts (setlimit_ b c) d rest k = both_count (count_amongs b) (count_amongs c) (λ r. amongs b (d + 1) r) (λ r. amongs c (d + 1) r) (tree_counts b (d + 1)) (tree_counts c (d + 1)) rest k
  tree_counts (assign_ x y z) d rest k = none_more rest k
  tree_counts (compare_ x y z) d rest k = none_more rest k
  tree_counts (compare_values_ x y z) d rest k = none_more rest k
  tree_counts (among_ s gs) d rest k =
      one_more (count_in_starter s + count_in_groups gs) (d, s, gs) (amongs_of_starter s d (amongs_of_groups gs d rest)) k
      ∙ both_count (count_in_starter s) (count_in_groups gs) (λ r. amongs_of_starter s d r) (λ r. amongs_of_groups gs d r) (starter_counts s d) (groups_count gs d) rest k

  pub rows_count : (rs : Rows) (d : ℕ) → Counts (count_in_rows rs) (λ rest. amongs_of_rows rs d rest)
  rows_count no_rows d rest k = none_more rest k
  rows_count (row c os rs) d rest k =
      both_count (count_amongs c) (count_in_others os + count_in_rows rs) (λ r. amongs c d r) (λ r. amongs_of_others os d (amongs_of_rows rs d r)) (tree_counts c d)
      (both_count (count_in_others os) (count_in_rows rs) (λ r. amongs_of_others os d r) (λ r. amongs_of_rows rs d r) (others_count os d) (rows_count rs d)) rest k

  pub others_count : (os : Others) (d : ℕ) → Counts (count_in_others os) (λ rest. amongs_of_others os d rest)
  others_count no_others d rest k = none_more rest k
  others_count (joined j c os) d rest k = both_count (count_amongs c) (count_in_others os) (λ r. amongs c d r) (λ r. amongs_of_others os d r) (tree_counts c d) (others_count os d) rest k

  pub starter_counts : (s : Starter) (d : ℕ) → Counts (count_in_starter s) (λ rest. amongs_of_starter s d rest)
  starter_counts no_starter d rest k = none_more rest k
  starter_counts (starter rs) d rest k = rows_count rs (d + 1 + 1) rest k

  pub groups_count : (gs : Groups) (d : ℕ) → Counts (count_in_groups gs) (λ rest. amongs_of_groups gs d rest)
  groups_count (bare es) d rest k = none_more rest k
  groups_count (group e es rs gs) d rest k = both_count (count_in_rows rs) (count_in_groups gs) (λ r. amongs_of_rows rs (d + 1 + 1) r) (λ r. amongs_of_groups gs d r) (rows_count rs (d + 1 + 1)) (groups_count gs d) rest k

-- ---- another in the place of the one with a number

-- what fits after a part
fits_after : (n : ℕ) (part : Hs → Hs) → Counts n part → (k : ℕ) (rest : Hs) (a : Starter × Groups) → FitsAt k (part rest) a → FitsAt (k - n) rest a
fits_after n part counts k rest a fits h is = go (k - n) refl is where
  go : (m : ℕ) → k - n ≡ m → nth_held m rest ≡ Some h → AreShallow (placed_command (among_ a.0 a.1) h.0 [])
  go zero e there = let never : None ≡ Some h = sym (none_is_first rest) ∙ there in absurd cc
  go (suc m) e there = fits h (ap (λ (x : ℕ). nth_held x (part rest)) (omega (arith, e)) ∙ counts rest m ∙ next_is rest m ∙ there)

-- what fits inside an among that is not the one
fits_inside : (k : ℕ) (g : AmongContents) (rest : Hs) (a : Starter × Groups) → nat_eq k 1 ≡ false → FitsAt k (g ∷ rest) a → FitsAt (k - 1) rest a
fits_inside k g rest a ne fits h is = fits h (ap (λ (b : Bool). if b then Some g else nth_held (k - 1) rest) ne ∙ is)

-- an among with others inside, where those are known to be shallow
chosen_put : (s : Starter) (gs : Groups) (d k : ℕ) (rest : Hs) (a : Starter × Groups) → AreShallow (placed_command (among_ s gs) d []) → FitsAt k (amongs (among_ s gs) d rest) a
    → (FitsAt (k - 1) (amongs_of_starter s d (amongs_of_groups gs d rest)) a → AreShallow (placed_starter (put_in_starter s (k - 1) a) d []))
    → (FitsAt (k - 1) (amongs_of_starter s d (amongs_of_groups gs d rest)) a → AreShallow (placed_groups (put_in_groups gs (k - 1 - count_in_starter s) a) d [])) → AreShallow (placed_command (put_among (among_ s gs) k a) d [])
chosen_put s gs d k rest a h fits starts groups = go (nat_eq k 1) refl where
  go : (b : Bool) → nat_eq k 1 ≡ b → AreShallow (placed_command (if b then among_ a.0 a.1 else among_ (put_in_starter s (k - 1) a) (put_in_groups gs (k - 1 - count_in_starter s) a)) d [])
  go true e = fits (d, s, gs) (ap (λ (b : Bool). if b then Some (d, s, gs) else nth_held (k - 1) (amongs_of_starter s d (amongs_of_groups gs d rest))) e)
  go false e =
      let close = (lex.sign signs.Close, d) ∷ [] in
      let inside = fits_inside k (d, s, gs) (amongs_of_starter s d (amongs_of_groups gs d rest)) a e fits in
      let g1 = placed_groups (put_in_groups gs (k - 1 - count_in_starter s) a) d in
      let s1 = placed_starter (put_in_starter s (k - 1) a) d in
      let tail = after_it (placed_starter s d) (starter_before s d) (placed_groups gs d close) h.1.1 in (
        h.0,
        (
          h.1.0,
          with_after s1 (starter_before (put_in_starter s (k - 1) a) d) (g1 close) (starts inside)
              (with_after g1 (groups_before (put_in_groups gs (k - 1 - count_in_starter s) a) d) close (groups inside) (after_it (placed_groups gs d) (groups_before gs d) close tail)),
        ),
      )

mutual
  pub tree_put : (c : Command) (d k : ℕ) (rest : Hs) (a : Starter × Groups) → AreShallow (placed_command c d []) → FitsAt k (amongs c d rest) a → AreShallow (placed_command (put_among c k a) d [])
  tree_put (bracket rs) d k rest a h fits =
      let close = (lex.sign signs.Close, d) ∷ [] in
      (h.0, with_after (placed_rows (put_in_rows rs k a) (d + 1)) (rows_before (put_in_rows rs k a) (d + 1)) close (rows_put rs (d + 1) k rest a (by_itself (placed_rows rs (d + 1)) (rows_before rs (d + 1)) close h.1) fits) (after_it (placed_rows rs (d + 1)) (rows_before rs (d + 1)) close h.1))
  tree_put (simple_ x) d k rest a h fits = h
  tree_put (literal_ x) d k rest a h fits = h
  tree_put (name_ x) d k rest a h fits = h
  tree_put (non_ x y) d k rest a h fits = h
  tree_put (prefixed p c) d k rest a h fits = (h.0, tree_put c (d + 1) k rest a h.1 fits)
  tree_put (counted n e c) d k rest a h fits =
      let whole = placed_command c (d + 1) [] in
      (h.0, with_after (placed_expression e d) (expression_before e d) (placed_command (put_among c k a) (d + 1) []) (by_itself (placed_expression e d) (expression_before e d) whole h.1) (tree_put c (d + 1) k rest a (after_it (placed_expression e d) (expression_before e d) whole h.1) fits))
  tree_put (move_ x y) d k rest a h fits = h
  tree_put (named x y) d k rest a h fits = h
  tree_put (splice_ x y) d k rest a h fits = h
  tree_put (setlimit_ b c) d k rest a h fits =
      let m = k - count_amongs b in
      let left = (lex.word words.For, d) ∷ placed_command c (d + 1) [] in
      let tail = after_it (placed_command b (d + 1)) (tree_before b (d + 1)) left h.1 in
      let second = tree_put c (d + 1) m rest a tail.1 (fits_after (count_amongs b) (λ r. amongs b (d + 1) r) (tree_counts b (d + 1)) k (amongs c (d + 1) rest) a fits) in
      let first = tree_put b (d + 1) k (amongs c (d + 1) rest) a (by_itself (placed_command b (d + 1)) (tree_before b (d + 1)) left h.1) fits in
      (h.0, with_after (placed_command (put_among b k a) (d + 1)) (tree_before (put_among b k a) (d + 1)) ((lex.word words.For, d) ∷ placed_command (put_among c m a) (d + 1) []) first (tail.0, second))
  tree_put (assign_ x y z) d k rest a h fits = h
  tree_put (compare_ x y z) d k rest a h fits = h
  tree_put (compare_values_ x y z) d k rest a h fits = h
  tree_put (among_ s gs) d k rest a h fits =
      let close = (lex.sign signs.Close, d) ∷ [] in
      let g0 = placed_groups gs d in
      let s0 = placed_starter s d in
      let tail = after_it s0 (starter_before s d) (g0 close) h.1.1 in
      chosen_put s gs d k rest a h fits (λ inside. starter_put s d (k - 1) (amongs_of_groups gs d rest) a (by_itself s0 (starter_before s d) (g0 close) h.1.1) inside)
      (λ inside. groups_put gs d (k - 1 - count_in_starter s) rest a (by_itself g0 (groups_before gs d) close tail) (fits_after (count_in_starter s) (λ r. amongs_of_starter s d r) (starter_counts s d) (k - 1) (amongs_of_groups gs d rest) a inside))

  pub rows_put : (rs : Rows) (d k : ℕ) (rest : Hs) (a : Starter × Groups) → AreShallow (placed_rows rs d []) → FitsAt k (amongs_of_rows rs d rest) a → AreShallow (placed_rows (put_in_rows rs k a) d [])
  rows_put no_rows d k rest a h fits = h
  rows_put (row c os rs) d k rest a h fits =
      let m = k - count_amongs c in
      let n = m - count_in_others os in
      let more = placed_rows rs d [] in
      let inner = amongs_of_others os d (amongs_of_rows rs d rest) in
      let tail = after_it (placed_command c d) (tree_before c d) (placed_others os d more) h in
      let first = tree_put c d k inner a (by_itself (placed_command c d) (tree_before c d) (placed_others os d more) h) fits in
      let after = fits_after (count_amongs c) (λ r. amongs c d r) (tree_counts c d) k inner a fits in
      let second = others_put os d m (amongs_of_rows rs d rest) a (by_itself (placed_others os d) (others_before os d) more tail) after in
      let third = rows_put rs d n rest a (after_it (placed_others os d) (others_before os d) more tail) (fits_after (count_in_others os) (λ r. amongs_of_others os d r) (others_count os d) m (amongs_of_rows rs d rest) a after) in
      let next = put_in_rows rs n a in
      let others = put_in_others os m a in
      with_after (placed_command (put_among c k a) d) (tree_before (put_among c k a) d) (placed_others others d (placed_rows next d [])) first (with_after (placed_others others d) (others_before others d) (placed_rows next d []) second third)

  pub others_put : (os : Others) (d k : ℕ) (rest : Hs) (a : Starter × Groups) → AreShallow (placed_others os d []) → FitsAt k (amongs_of_others os d rest) a → AreShallow (placed_others (put_in_others os k a) d [])
  others_put no_others d k rest a h fits = h
  others_put (joined j c os) d k rest a h fits =
      let m = k - count_amongs c in
      let more = placed_others os d [] in
      let first = tree_put c d k (amongs_of_others os d rest) a (by_itself (placed_command c d) (tree_before c d) more h.1) fits in
      let second = others_put os d m rest a (after_it (placed_command c d) (tree_before c d) more h.1) (fits_after (count_amongs c) (λ r. amongs c d r) (tree_counts c d) k (amongs_of_others os d rest) a fits) in
      (h.0, with_after (placed_command (put_among c k a) d) (tree_before (put_among c k a) d) (placed_others (put_in_others os m a) d []) first second)

  pub starter_put : (s : Starter) (d k : ℕ) (rest : Hs) (a : Starter × Groups) → AreShallow (placed_starter s d []) → FitsAt k (amongs_of_starter s d rest) a → AreShallow (placed_starter (put_in_starter s k a) d [])
  starter_put no_starter d k rest a h fits = h
  starter_put (starter rs) d k rest a h fits =
      let close = (lex.sign signs.Close, d + 1) ∷ [] in
      let old = placed_rows rs (d + 1 + 1) in
      let new = placed_rows (put_in_rows rs k a) (d + 1 + 1) in
      (h.0, with_after new (rows_before (put_in_rows rs k a) (d + 1 + 1)) close (rows_put rs (d + 1 + 1) k rest a (by_itself old (rows_before rs (d + 1 + 1)) close h.1) fits) (after_it old (rows_before rs (d + 1 + 1)) close h.1))

  pub groups_put : (gs : Groups) (d k : ℕ) (rest : Hs) (a : Starter × Groups) → AreShallow (placed_groups gs d []) → FitsAt k (amongs_of_groups gs d rest) a → AreShallow (placed_groups (put_in_groups gs k a) d [])
  groups_put (bare es) d k rest a h fits = h
  groups_put (group e es rs gs) d k rest a h fits =
      let m = k - count_in_rows rs in
      let old = placed_rows rs (d + 1 + 1) in
      let new = placed_rows (put_in_rows rs k a) (d + 1 + 1) in
      let next = put_in_groups gs m a in
      let more = (lex.sign signs.Close, d + 1) ∷ placed_groups gs d [] in
      let bracketed_ = (lex.sign signs.Open, d + 1) ∷ old more in
      let strings = after_it (placed_entry e d) (entry_before e d) (placed_entries es d bracketed_) h in
      let inner = after_it (placed_entries es d) (entries_before es d) bracketed_ strings in
      let tail = after_it old (rows_before rs (d + 1 + 1)) more inner.1 in
      let first = rows_put rs (d + 1 + 1) k (amongs_of_groups gs d rest) a (by_itself old (rows_before rs (d + 1 + 1)) more inner.1) fits in
      let second = groups_put gs d m rest a tail.1 (fits_after (count_in_rows rs) (λ r. amongs_of_rows rs (d + 1 + 1) r) (rows_count rs (d + 1 + 1)) k (amongs_of_groups gs d rest) a fits) in
      let now = (lex.sign signs.Open, d + 1) ∷ new ((lex.sign signs.Close, d + 1) ∷ placed_groups next d []) in
      let whole : AreShallow now = (inner.0, with_after new (rows_before (put_in_rows rs k a) (d + 1 + 1)) ((lex.sign signs.Close, d + 1) ∷ placed_groups next d []) first (tail.0, second)) in
      with_after (placed_entry e d) (entry_before e d) (placed_entries es d now) (by_itself (placed_entry e d) (entry_before e d) (placed_entries es d bracketed_) h)
      (with_after (placed_entries es d) (entries_before es d) now (by_itself (placed_entries es d) (entries_before es d) bracketed_ strings) whole)

-- a routine's body with another among that is shallow where the old one is
pub body_put : (b : Command × Others) (k : ℕ) (a : Starter × Groups) → AreShallow (places_in body b) → FitsAt k (amongs_of_body b) a → AreShallow (places_in body (put_in_body b k a))
body_put b k a h fits =
    let m = k - count_amongs b.0 in
    let more = placed_others b.1 1 [] in
    let first = tree_put b.0 1 k (amongs_of_others b.1 1 []) a (by_itself (placed_command b.0 1) (tree_before b.0 1) more h) fits in
    let second = others_put b.1 1 m [] a (after_it (placed_command b.0 1) (tree_before b.0 1) more h) (fits_after (count_amongs b.0) (λ r. amongs b.0 1 r) (tree_counts b.0 1) k (amongs_of_others b.1 1 []) a fits) in
    with_after (placed_command (put_among b.0 k a) 1) (tree_before (put_among b.0 k a) 1) (placed_others (put_in_others b.1 m a) 1 []) first second
