-- A tree in which another among stands in the place of the k-th, with as many amongs in it: with a hole there it is the same.
use Rattle.std.proofs.Common.{◌≡◌, ◌∙◌, ℕ, zero, suc, ◌+◌, ◌-◌, Bool, true, false, nat_eq, if◌then◌else◌, List, [], ◌∷◌, Some, None, refl, sym, ap, arith}
use Rattle.std.proofs.lemmas.Bool.{ne_eqb, eqb-true, true≢false}
use Rattle.sbl_ast.specs.Tree.{Command, Rows, Others, Starter, Groups, bracket, simple_, literal_, name_, non_, prefixed, counted, move_, named, splice_, setlimit_, assign_, compare_, compare_values_, among_, no_rows, row, no_others, joined, no_starter, starter, bare, group, entry}
use Rattle.sbl_ast.specs.Counts.{count_amongs, count_in_rows, count_in_others, count_in_starter, count_in_groups, count_in_among}
use Rattle.sbl_tree_amongs.specs.Amongs.{AmongContents, amongs, amongs_of_body, amongs_of_rows, amongs_of_others, amongs_of_starter, amongs_of_groups, nth_held, put_among, put_in_rows, put_in_others, put_in_starter, put_in_groups}
use Rattle.sbl_tree_amongs.proofs.Held.{Counts, none_is_first, tree_counts, rows_count, others_count, starter_counts}
use Rattle.sbl_semantics.specs.Regions.{number_after, number_after_rows, number_after_others, number_after_starter}
use Rattle.sbl_semantics.proofs.NumberAfter.{after_is, after_rows_is, after_others_is, after_starter_is}
use Rattle.sbl_machine.specs.Holes.{blank, blanks, blanks_rows, blanks_others, blanks_starter, blanks_groups, nothing, hole, with_holes, rows_with_holes, others_with_holes, starter_with_holes, groups_with_holes}

-- ---- blanks are as many as there are amongs

so_many : ℕ → Rows → Rows
so_many zero rest = rest
so_many (suc n) rest = row blank no_others (so_many n rest)

many_more : (m n : ℕ) (rest : Rows) → so_many m (so_many n rest) ≡ so_many (m + n) rest
unfolding so_many
many_more zero n rest = let e : n ≡ 0 + n = omega arith in ap (λ (x : ℕ). so_many x rest) e
many_more (suc m) n rest = let e : suc (m + n) ≡ suc m + n = omega arith in ap (row blank no_others) (many_more m n rest) ∙ ap (λ (x : ℕ). so_many x rest) e

one_blank : (n : ℕ) (rest : Rows) → row blank no_others (so_many n rest) ≡ so_many (1 + n) rest
unfolding so_many
one_blank n rest = let e : suc n ≡ 1 + n = omega arith in ap (λ (x : ℕ). so_many x rest) e

none_many : (rest : Rows) → rest ≡ so_many 0 rest
unfolding so_many
none_many rest = refl

mutual
  blanks_many : (t : Command) (rest : Rows) → blanks t rest ≡ so_many (count_amongs t) rest
  blanks_many (bracket rs) rest = rows_many rs rest
  blanks_many (simple_ x) rest = none_many rest
  blanks_many (literal_ x) rest = none_many rest
  blanks_many (name_ x) rest = none_many rest
  blanks_many (non_ x y) rest = none_many rest
  blanks_many (prefixed x c) rest = blanks_many c rest
  blanks_many (counted x e c) rest = blanks_many c rest
  blanks_many (move_ x y) rest = none_many rest
  blanks_many (named x y) rest = none_many rest
  blanks_many (splice_ x y) rest = none_many rest
  blanks_many (setlimit_ b c) rest = ap (blanks b) (blanks_many c rest) ∙ blanks_many b (so_many (count_amongs c) rest) ∙ many_more (count_amongs b) (count_amongs c) rest
  blanks_many (assign_ x y z) rest = none_many rest
  blanks_many (compare_ x y z) rest = none_many rest
  blanks_many (compare_values_ x y z) rest = none_many rest
  blanks_many (among_ s gs) rest =
      ap (λ (l : Rows). row blank no_others (blanks_starter s l)) (groups_many gs rest)
      ∙ ap (row blank no_others) (starter_many s (so_many (count_in_groups gs) rest) ∙ many_more (count_in_starter s) (count_in_groups gs) rest)
      ∙ one_blank (count_in_starter s + count_in_groups gs) rest

  rows_many : (rs : Rows) (rest : Rows) → blanks_rows rs rest ≡ so_many (count_in_rows rs) rest
  rows_many no_rows rest = none_many rest
  rows_many (row c os rs) rest =
      ap (λ (l : Rows). blanks c (blanks_others os l)) (rows_many rs rest)
      ∙ ap (blanks c) (others_many os (so_many (count_in_rows rs) rest) ∙ many_more (count_in_others os) (count_in_rows rs) rest)
      ∙ blanks_many c (so_many (count_in_others os + count_in_rows rs) rest) ∙ many_more (count_amongs c) (count_in_others os + count_in_rows rs) rest

  others_many : (os : Others) (rest : Rows) → blanks_others os rest ≡ so_many (count_in_others os) rest
  others_many no_others rest = none_many rest
  others_many (joined j c os) rest = ap (blanks c) (others_many os rest) ∙ blanks_many c (so_many (count_in_others os) rest) ∙ many_more (count_amongs c) (count_in_others os) rest

  starter_many : (s : Starter) (rest : Rows) → blanks_starter s rest ≡ so_many (count_in_starter s) rest
  starter_many no_starter rest = none_many rest
  starter_many (starter rs) rest = rows_many rs rest

  groups_many : (gs : Groups) (rest : Rows) → blanks_groups gs rest ≡ so_many (count_in_groups gs) rest
  groups_many (bare es) rest = none_many rest
  groups_many (group e es rs gs) rest = ap (blanks_rows rs) (groups_many gs rest) ∙ rows_many rs (so_many (count_in_groups gs) rest) ∙ many_more (count_in_rows rs) (count_in_groups gs) rest

inside_many : (s : Starter) (gs : Groups) → blanks_starter s (blanks_groups gs no_rows) ≡ so_many (count_in_starter s + count_in_groups gs) no_rows
inside_many s gs = ap (blanks_starter s) (groups_many gs no_rows) ∙ starter_many s (so_many (count_in_groups gs) no_rows) ∙ many_more (count_in_starter s) (count_in_groups gs) no_rows

-- the hole of an among is that of another with as many in it
pub hole_same : (s s' : Starter) (gs gs' : Groups) → count_in_among (s', gs') ≡ count_in_among (s, gs) → hole s' gs' ≡ hole s gs
hole_same s s' gs gs' e =
    let n : count_in_starter s' + count_in_groups gs' ≡ count_in_starter s + count_in_groups gs = omega (arith, e) in
    let same : blanks_starter s' (blanks_groups gs' no_rows) ≡ blanks_starter s (blanks_groups gs no_rows) =
    inside_many s' gs' ∙ ap (λ (x : ℕ). so_many x no_rows) n ∙ sym (inside_many s gs) in
    ap (λ (rs : Rows). among_ no_starter (group (entry nothing None) [] rs (bare []))) same

-- ---- the among that is put, with as many amongs as the one with its number

module _ (k : ℕ) (a : Starter × Groups) (holes : ℕ → Bool) (only : (j : ℕ) → holes j ≡ nat_eq k j) where
  -- the one with this number, if there is one, has as many
  record AsMany (l : ℕ) (hs : List AmongContents) : Type 0 where
    is : (h : AmongContents) → nth_held l hs ≡ Some h → count_in_among a ≡ count_in_among (h.1, h.2)

  many_after : (n : ℕ) (part : List AmongContents → List AmongContents) → Counts n part → (l : ℕ) (rest : List AmongContents) → AsMany l (part rest) → AsMany (l - n) rest
  many_after n part counts l rest many = record { is = λ h there. go h (l - n) refl there }
    where
      go : (h : AmongContents) (m : ℕ) → l - n ≡ m → nth_held m rest ≡ Some h → count_in_among a ≡ count_in_among (h.1, h.2)
      go h zero e there = let never : None ≡ Some h = sym (none_is_first rest) ∙ there in absurd cc
      go h (suc m) e there =
          let x : l ≡ n + (1 + m) = omega (arith, e) in
          let y : 1 + m ≡ suc m = omega arith in
          many.is h (ap (λ (z : ℕ). nth_held z (part rest)) x ∙ counts rest m ∙ ap (λ (z : ℕ). nth_held z rest) y ∙ there)

  many_inside : (l : ℕ) (g : AmongContents) (rest : List AmongContents) → nat_eq l 1 ≡ false → AsMany l (g ∷ rest) → AsMany (l - 1) rest
  many_inside l g rest ne many = record { is = λ h there. many.is h (ap (λ (b : Bool). if b then Some g else nth_held (l - 1) rest) ne ∙ there) }

  -- a tree and that with the among put, where the first has j amongs of its routine before it, and the second j' ≡ j
  record TreeSame (j : ℕ) (t u : Command) : Type 0 where
    same : (j' : ℕ) → j' ≡ j → with_holes holes j' u ≡ with_holes holes j t
    count : count_amongs u ≡ count_amongs t

  record RowsSame (j : ℕ) (t u : Rows) : Type 0 where
    same : (j' : ℕ) → j' ≡ j → rows_with_holes holes j' u ≡ rows_with_holes holes j t
    count : count_in_rows u ≡ count_in_rows t

  record OthersSame (j : ℕ) (t u : Others) : Type 0 where
    same : (j' : ℕ) → j' ≡ j → others_with_holes holes j' u ≡ others_with_holes holes j t
    count : count_in_others u ≡ count_in_others t

  record StarterSame (j : ℕ) (t u : Starter) : Type 0 where
    same : (j' : ℕ) → j' ≡ j → starter_with_holes holes j' u ≡ starter_with_holes holes j t
    count : count_in_starter u ≡ count_in_starter t

  record GroupsSame (j : ℕ) (t u : Groups) : Type 0 where
    same : (j' : ℕ) → j' ≡ j → groups_with_holes holes j' u ≡ groups_with_holes holes j t
    count : count_in_groups u ≡ count_in_groups t

  -- the next number after both is the same
  tree_next : (t u : Command) (j j' : ℕ) → count_amongs u ≡ count_amongs t → j' ≡ j → number_after u j' ≡ number_after t j
  tree_next t u j j' c p = after_is u j' ∙ (λ i. p i + c i) ∙ sym (after_is t j)

  rows_next : (t u : Rows) (j j' : ℕ) → count_in_rows u ≡ count_in_rows t → j' ≡ j → number_after_rows u j' ≡ number_after_rows t j
  rows_next t u j j' c p = after_rows_is u j' ∙ (λ i. p i + c i) ∙ sym (after_rows_is t j)

  others_next : (t u : Others) (j j' : ℕ) → count_in_others u ≡ count_in_others t → j' ≡ j → number_after_others u j' ≡ number_after_others t j
  others_next t u j j' c p = after_others_is u j' ∙ (λ i. p i + c i) ∙ sym (after_others_is t j)

  starter_next : (t u : Starter) (j j' : ℕ) → count_in_starter u ≡ count_in_starter t → j' ≡ j → number_after_starter u j' ≡ number_after_starter t j
  starter_next t u j j' c p = after_starter_is u j' ∙ (λ i. p i + c i) ∙ sym (after_starter_is t j)

  leaf : (j : ℕ) (t : Command) → ((j' : ℕ) → with_holes holes j' t ≡ t) → TreeSame j t t
  leaf j t h = record { same = λ j' p. h j' ∙ sym (h j); count = refl }

  among_put : (s : Starter) (gs : Groups) (d l j : ℕ) (rest : List AmongContents) → l ≡ k - j → AsMany l (amongs (among_ s gs) d rest)
      → (nat_eq l 1 ≡ false → StarterSame (suc j) s (put_in_starter s (l - 1) a))
      → (nat_eq l 1 ≡ false → GroupsSame (number_after_starter s (suc j)) gs (put_in_groups gs (l - 1 - count_in_starter s) a))
      → (b : Bool) → nat_eq l 1 ≡ b → TreeSame j (among_ s gs) (if b then among_ a.0 a.1 else among_ (put_in_starter s (l - 1) a) (put_in_groups gs (l - 1 - count_in_starter s) a))
  among_put s gs d l j rest e many starts groups true is =
      let more = amongs_of_starter s d (amongs_of_groups gs d rest) in
      let one : l ≡ 1 = eqb-true l 1 is in
      let k_is : k ≡ suc j = omega (arith, e, one) in
      let count : count_in_among a ≡ count_in_among (s, gs) = many.is (d, s, gs) (ap (λ (b : Bool). if b then Some (d, s, gs) else nth_held (l - 1) more) is) in
      let here : holes (suc j) ≡ true = only (suc j) ∙ search (arith, k_is) in
      record {
        same = λ j' p.
            ap (λ (x : ℕ). if holes (suc x) then hole a.0 a.1 else among_ (starter_with_holes holes (suc x) a.0) (groups_with_holes holes (number_after_starter a.0 (suc x)) a.1)) p
            ∙ ap (λ (b : Bool). if b then hole a.0 a.1 else among_ (starter_with_holes holes (suc j) a.0) (groups_with_holes holes (number_after_starter a.0 (suc j)) a.1)) here
            ∙ hole_same s a.0 gs a.1 count
            ∙ sym (ap (λ (b : Bool). if b then hole s gs else among_ (starter_with_holes holes (suc j) s) (groups_with_holes holes (number_after_starter s (suc j)) gs)) here);
        count = count;
      }
  among_put s gs d l j rest e many starts groups false is =
      let st = put_in_starter s (l - 1) a in
      let gr = put_in_groups gs (l - 1 - count_in_starter s) a in
      let x = starts is in
      let y = groups is in
      let away : holes (suc j) ≡ false = only (suc j) ∙ ne_eqb k (suc j) (λ f. true≢false (sym (search (arith, e, f)) ∙ is)) in
      record {
        same = λ j' p.
            ap (λ (z : ℕ). if holes (suc z) then hole st gr else among_ (starter_with_holes holes (suc z) st) (groups_with_holes holes (number_after_starter st (suc z)) gr)) p
            ∙ ap (λ (b : Bool). if b then hole st gr else among_ (starter_with_holes holes (suc j) st) (groups_with_holes holes (number_after_starter st (suc j)) gr)) away
            ∙ (λ i. among_ (x.same (suc j) refl i) (y.same (number_after_starter st (suc j)) (starter_next s st (suc j) (suc j) x.count refl) i))
            ∙ sym (ap (λ (b : Bool). if b then hole s gs else among_ (starter_with_holes holes (suc j) s) (groups_with_holes holes (number_after_starter s (suc j)) gs)) away);
        count = λ i. 1 + (x.count i + y.count i);
      }

  mutual
    tree_put : (t : Command) (d l j : ℕ) (rest : List AmongContents) → l ≡ k - j → AsMany l (amongs t d rest) → TreeSame j t (put_among t l a)
    tree_put (bracket rs) d l j rest e many = let x = rows_put rs (d + 1) l j rest e many in record { same = λ j' p. ap bracket (x.same j' p); count = x.count }
    tree_put (simple_ x) d l j rest e many = leaf j (simple_ x) (λ j'. refl)
    tree_put (literal_ x) d l j rest e many = leaf j (literal_ x) (λ j'. refl)
    tree_put (name_ x) d l j rest e many = leaf j (name_ x) (λ j'. refl)
    tree_put (non_ x y) d l j rest e many = leaf j (non_ x y) (λ j'. refl)
    tree_put (prefixed x c) d l j rest e many = let y = tree_put c (d + 1) l j rest e many in record { same = λ j' p. ap (prefixed x) (y.same j' p); count = y.count }
    tree_put (counted x v c) d l j rest e many = let y = tree_put c (d + 1) l j rest e many in record { same = λ j' p. ap (counted x v) (y.same j' p); count = y.count }
    tree_put (move_ x y) d l j rest e many = leaf j (move_ x y) (λ j'. refl)
    tree_put (named x y) d l j rest e many = leaf j (named x y) (λ j'. refl)
    tree_put (splice_ x y) d l j rest e many = leaf j (splice_ x y) (λ j'. refl)
    tree_put (setlimit_ b c) d l j rest e many =
        let x = tree_put b (d + 1) l j (amongs c (d + 1) rest) e many in
        let n = after_is b j in
        let f : l - count_amongs b ≡ k - number_after b j = omega (arith, e, n) in
        let y = tree_put c (d + 1) (l - count_amongs b) (number_after b j) rest f (many_after (count_amongs b) (λ r. amongs b (d + 1) r) (tree_counts b (d + 1)) l (amongs c (d + 1) rest) many) in
        let u = put_among b l a in
        record { same = λ j' p. (λ i. setlimit_ (x.same j' p i) (y.same (number_after u j') (tree_next b u j j' x.count p) i)); count = λ i. x.count i + y.count i }
    tree_put (assign_ x y z) d l j rest e many = leaf j (assign_ x y z) (λ j'. refl)
    tree_put (compare_ x y z) d l j rest e many = leaf j (compare_ x y z) (λ j'. refl)
    tree_put (compare_values_ x y z) d l j rest e many = leaf j (compare_values_ x y z) (λ j'. refl)
    tree_put (among_ s gs) d l j rest e many =
        let n = after_starter_is s (suc j) in
        let f : l - 1 ≡ k - suc j = omega (arith, e) in
        let g : l - 1 - count_in_starter s ≡ k - number_after_starter s (suc j) = omega (arith, e, n) in
        let more = amongs_of_starter s d (amongs_of_groups gs d rest) in
        among_put s gs d l j rest e many
        (λ ne. starter_put s d (l - 1) (suc j) (amongs_of_groups gs d rest) f (many_inside l (d, s, gs) more ne many))
        (λ ne. groups_put gs d (l - 1 - count_in_starter s) (number_after_starter s (suc j)) rest g
        (many_after (count_in_starter s) (λ r. amongs_of_starter s d r) (starter_counts s d) (l - 1) (amongs_of_groups gs d rest) (many_inside l (d, s, gs) more ne many)))
        (nat_eq l 1) refl

    rows_put : (rs : Rows) (d l j : ℕ) (rest : List AmongContents) → l ≡ k - j → AsMany l (amongs_of_rows rs d rest) → RowsSame j rs (put_in_rows rs l a)
    rows_put no_rows d l j rest e many = record { same = λ j' p. refl; count = refl }
    rows_put (row c os rs) d l j rest e many =
        let last = amongs_of_rows rs d rest in
        let inner = amongs_of_others os d last in
        let l1 = l - count_amongs c in
        let l2 = l - count_amongs c - count_in_others os in
        let n1 = after_is c j in
        let n2 = after_others_is os (number_after c j) in
        let f1 : l1 ≡ k - number_after c j = omega (arith, e, n1) in
        let f2 : l2 ≡ k - number_after_others os (number_after c j) = omega (arith, e, n1, n2) in
        let m1 = many_after (count_amongs c) (λ r. amongs c d r) (tree_counts c d) l inner many in
        let m2 = many_after (count_in_others os) (λ r. amongs_of_others os d r) (others_count os d) l1 last m1 in
        let x = tree_put c d l j inner e many in
        let y = others_put os d l1 (number_after c j) last f1 m1 in
        let z = rows_put rs d l2 (number_after_others os (number_after c j)) rest f2 m2 in
        let u = put_among c l a in
        let v = put_in_others os l1 a in
        record {
          same = λ j' p.
              let p1 = tree_next c u j j' x.count p in
              let p2 = others_next os v (number_after c j) (number_after u j') y.count p1 in
              (λ i. row (x.same j' p i) (y.same (number_after u j') p1 i) (z.same (number_after_others v (number_after u j')) p2 i));
          count = λ i. x.count i + (y.count i + z.count i);
        }

    others_put : (os : Others) (d l j : ℕ) (rest : List AmongContents) → l ≡ k - j → AsMany l (amongs_of_others os d rest) → OthersSame j os (put_in_others os l a)
    others_put no_others d l j rest e many = record { same = λ j' p. refl; count = refl }
    others_put (joined o c os) d l j rest e many =
        let inner = amongs_of_others os d rest in
        let l1 = l - count_amongs c in
        let n1 = after_is c j in
        let f1 : l1 ≡ k - number_after c j = omega (arith, e, n1) in
        let x = tree_put c d l j inner e many in
        let y = others_put os d l1 (number_after c j) rest f1 (many_after (count_amongs c) (λ r. amongs c d r) (tree_counts c d) l inner many) in
        let u = put_among c l a in
        record { same = λ j' p. (λ i. joined o (x.same j' p i) (y.same (number_after u j') (tree_next c u j j' x.count p) i)); count = λ i. x.count i + y.count i }

    starter_put : (s : Starter) (d l j : ℕ) (rest : List AmongContents) → l ≡ k - j → AsMany l (amongs_of_starter s d rest) → StarterSame j s (put_in_starter s l a)
    starter_put no_starter d l j rest e many = record { same = λ j' p. refl; count = refl }
    starter_put (starter rs) d l j rest e many = let x = rows_put rs (d + 1 + 1) l j rest e many in record { same = λ j' p. ap starter (x.same j' p); count = x.count }

    groups_put : (gs : Groups) (d l j : ℕ) (rest : List AmongContents) → l ≡ k - j → AsMany l (amongs_of_groups gs d rest) → GroupsSame j gs (put_in_groups gs l a)
    groups_put (bare es) d l j rest e many = record { same = λ j' p. refl; count = refl }
    groups_put (group v es rs gs) d l j rest e many =
        let inner = amongs_of_groups gs d rest in
        let l1 = l - count_in_rows rs in
        let n1 = after_rows_is rs j in
        let f1 : l1 ≡ k - number_after_rows rs j = omega (arith, e, n1) in
        let x = rows_put rs (d + 1 + 1) l j inner e many in
        let y = groups_put gs d l1 (number_after_rows rs j) rest f1 (many_after (count_in_rows rs) (λ r. amongs_of_rows rs (d + 1 + 1) r) (rows_count rs (d + 1 + 1)) l inner many) in
        let u = put_in_rows rs l a in
        record { same = λ j' p. (λ i. group v es (x.same j' p i) (y.same (number_after_rows u j') (rows_next rs u j j' x.count p) i)); count = λ i. x.count i + y.count i }

  -- a routine's body and that with the among put are the same, with holes
  pub record BodySame (b : Command × Others) : Type 0 where
    pub first : with_holes holes 0 (put_among b.0 k a) ≡ with_holes holes 0 b.0
    pub others : others_with_holes holes (number_after (put_among b.0 k a) 0) (put_in_others b.1 (k - count_amongs b.0) a) ≡ others_with_holes holes (number_after b.0 0) b.1

  pub body_put : (b : Command × Others) (h : AmongContents) → nth_held k (amongs_of_body b) ≡ Some h → count_in_among a ≡ count_in_among (h.1, h.2) → BodySame b
  body_put b h there count =
      let inner = amongs_of_others b.1 1 [] in
      let e : k ≡ k - 0 = omega arith in
      let many : AsMany k (amongs b.0 1 inner) = record { is = λ g at. let same : h ≡ g = cc in count ∙ ap (λ (x : AmongContents). count_in_among (x.1, x.2)) same } in
      let x = tree_put b.0 1 k 0 inner e many in
      let n = after_is b.0 0 in
      let f : k - count_amongs b.0 ≡ k - number_after b.0 0 = omega (arith, n) in
      let y = others_put b.1 1 (k - count_amongs b.0) (number_after b.0 0) [] f (many_after (count_amongs b.0) (λ r. amongs b.0 1 r) (tree_counts b.0 1) k inner many) in
      record { first = x.same 0 refl; others = y.same (number_after (put_among b.0 k a) 0) (tree_next b.0 (put_among b.0 k a) 0 0 x.count refl) }
