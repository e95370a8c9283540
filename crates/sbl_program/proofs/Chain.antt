-- The search of a linked table: the last row that does not stand after a text, and the links from there, are all its prefixes.
use Rattle.std.proofs.Common.{◌≡◌, ℕ, zero, suc, ◌+◌, ◌<◌, ◌≤◌, Bool, true, false, List, [], ◌∷◌, ◌++◌, length, Option, Some, None, refl, sym, ap, ◌∙◌, arith, get_or}
use Rattle.std.specs.Prelude.{nat_eq, nat_lt, slice_get, IfSome}
use mathlib.Core.Path.{subst}
use Rattle.std.specs.List.{starts_with}
use Rattle.std.specs.Ordering.{is_gt, nat_cmp}
use Rattle.std.specs.Cmp.Lexicographic.{slice_cmp}
use Rattle.std.proofs.lemmas.Bool.{ltb-true, ltb-false}
use Rattle.std.proofs.lemmas.Option.{slice_get-get_or, slice_get_within, get_or_from_slice_get}
use Rattle.std.proofs.lemmas.List.{get_or_append_left, get_or_push, length-append}
use Rattle.sbl_program.specs.Best.{IsBest}
use Rattle.sbl_program.specs.Linked.{AreLinks, AreRows, GoDown, IsCount, IsLast, Rise, StandsAt, before, upto_row}
use Rattle.sbl_program.proofs.Fits.{some_text, prefix_length}
use Rattle.sbl_program.proofs.Order.{prefix_not_after, between, itself, prefix_upto, shorter_prefix, same_prefix, true_or_false}

-- all prefixes of x that are looked for stand before the n-th row, which does not stand after x
pub stands : (texts : List (List ℕ)) (x : List ℕ) (b n : ℕ) → n ≤ length texts → Rise texts → ((p : ℕ) (w : List ℕ) → p < n → slice_get texts p ≡ Some w → is_gt (slice_cmp nat_cmp w x) ≡ false) → ((j : ℕ) (v : List ℕ) → slice_get texts j ≡ Some v → starts_with nat_eq x v ≡ true → length v < b → j < n) → StandsAt texts x b (before n)
stands texts x b zero l rise upto ahead = λ j v s f. let no : length v < b → ⊥ = λ k. omega (arith, ahead j v s f k) in omega (arith, no)
stands texts x b (suc p) l rise upto ahead =
    let w = get_or texts p [] in
    let at : slice_get texts p ≡ Some w = slice_get-get_or texts p [] (omega arith) in (
      w,
      at,
      λ j v s f k.
          let less : j < suc p = ahead j v s f k in
          (between x v w f (rise j p v w (omega arith) s at) (upto p w (omega arith) at), λ g. absurd (omega (arith, less, g))),
    )

-- the rows up to x
pub count_stands : (texts : List (List ℕ)) (x : List ℕ) (b n : ℕ) → Rise texts → IsCount texts x n → StandsAt texts x b (before n)
count_stands texts x b n rise count =
    stands texts x b n count.inside rise count.before (λ j v s f k. by j v s f (nat_lt j n) refl)
  where
    by : (j : ℕ) (v : List ℕ) → slice_get texts j ≡ Some v → starts_with nat_eq x v ≡ true → (t : Bool) → nat_lt j n ≡ t → j < n
    by j v s f true t = ltb-true j n t
    by j v s f false t = absurd (true_or_false _ (count.following j v (ltb-false j n t) s) (prefix_upto x v f))

-- the rows before a row's own
pub own_stands : (texts : List (List ℕ)) (k : ℕ) (w : List ℕ) → Rise texts → slice_get texts k ≡ Some w → StandsAt texts w (length w) (before k)
own_stands texts k w rise at =
    let inside : k < length texts = slice_get_within texts k w at in
    stands texts w (length w) k (omega arith) rise (λ p u l s. rise p k u w (omega arith) s at) (λ j v s f n. by j v s f n (nat_lt j k) refl)
  where
    by : (j : ℕ) (v : List ℕ) → slice_get texts j ≡ Some v → starts_with nat_eq w v ≡ true → length v < length w → (t : Bool) → nat_lt j k ≡ t → j < k
    by j v s f n true t = ltb-true j k t
    by j v s f n false t = absurd (true_or_false _ (prefix_not_after w v f n) (rise k j w v (ltb-false j k t) at s))

-- a row that matches is what is looked for
pub match_stands_at : (texts : List (List ℕ)) (x : List ℕ) (b r : ℕ) (w : List ℕ) → StandsAt texts x b (Some r) → slice_get texts r ≡ Some w → starts_with nat_eq x w ≡ true → length w < b → IsLast texts x b (Some r)
match_stands_at texts x b r w stand at prefix short =
    let same : stand.0 ≡ w = some_text stand.0 w (sym stand.1 ∙ at) in (
      w,
      at,
      prefix,
      short,
      λ j v s f n.
          let t = stand.2 j v s f n in
          let inner : starts_with nat_eq w v ≡ true = ap (λ y. starts_with nat_eq y v) (sym same) ∙ t.0 in
          (long w v inner, λ g. let k : length v < length stand.0 = t.1 g in omega (arith, k, ap length same)),
    )
  where
    long : (w v : List ℕ) → starts_with nat_eq w v ≡ true → length v ≤ length w
    long w v h = prefix_length w v h

-- from a row that does not, its link goes on
shorter : (x w v : List ℕ) (b : ℕ) → starts_with nat_eq x v ≡ true → starts_with nat_eq w v ≡ true → length v < b → (starts_with nat_eq x w ≡ true → b ≤ length w) → length v < length w
shorter x w v b f g n unmet =
    let l : length v ≤ length w = prefix_length w v g in
    let other : length v ≡ length w → ⊥ = λ e.
    let same : v ≡ w = same_prefix w v w g (itself w) e in
    let prefix : starts_with nat_eq x w ≡ true = ap (λ y. starts_with nat_eq x y) (sym same) ∙ f in
    omega (arith, unmet prefix, n, e) in
    omega (arith, l, other)

pub goes_on : (texts : List (List ℕ)) (x : List ℕ) (b r : ℕ) (w : List ℕ) (l : Option ℕ) → StandsAt texts x b (Some r) → slice_get texts r ≡ Some w → (starts_with nat_eq x w ≡ true → b ≤ length w) → IsLast texts w (length w) l → StandsAt texts x b l
goes_on texts x b r w None stand at unmet last = λ j v s f. by j v s f
  where
    same : stand.0 ≡ w
    same = some_text stand.0 w (sym stand.1 ∙ at)

    by : (j : ℕ) (v : List ℕ) → slice_get texts j ≡ Some v → starts_with nat_eq x v ≡ true → b ≤ length v
    by j v s f =
        let none : length v < b → ⊥ = λ n.
        let g : starts_with nat_eq w v ≡ true = ap (λ y. starts_with nat_eq y v) (sym same) ∙ (stand.2 j v s f n).0 in
        omega (arith, last j v s g, shorter x w v b f g n unmet) in
        omega (arith, none)
goes_on texts x b r w (Some q) stand at unmet last = (
  last.0,
  last.1,
  λ j v s f n.
      let same : stand.0 ≡ w = some_text stand.0 w (sym stand.1 ∙ at) in
      let g : starts_with nat_eq w v ≡ true = ap (λ y. starts_with nat_eq y v) (sym same) ∙ (stand.2 j v s f n).0 in
      let o = last.4 j v s g (shorter x w v b f g n unmet) in
      (shorter_prefix w v last.0 g last.2 o.0, o.1),
)

-- the number of the row that is found
abbrev pub Numbered : List ℕ → Option ℕ → Option ℕ → Type 0
Numbered numbers None r = r ≡ None
Numbered numbers (Some k) r = (i : ℕ) × (slice_get numbers k ≡ Some i) × (r ≡ Some i)

best_none : (strings texts : List (List ℕ)) (numbers : List ℕ) (x : List ℕ) (b : ℕ) → AreRows strings texts numbers → IsLast texts x b None → IsBest strings x b None
best_none strings texts numbers x b rows last = λ j v s f. let a = rows.all j v s in last a.0 v a.1 f

best_some : (strings texts : List (List ℕ)) (numbers : List ℕ) (x : List ℕ) (b k i : ℕ) → AreRows strings texts numbers → slice_get numbers k ≡ Some i → IsLast texts x b (Some k) → IsBest strings x b (Some i)
best_some strings texts numbers x b k i rows at last =
    let w = last.0 in (
      w,
      rows.listed k i w last.1 at,
      last.2,
      last.3,
      (λ j v s f n. let a = rows.all j v s in (last.4 a.0 v a.1 f n).0),
      (λ j v g s f n.
          let a = rows.all j v s in
          let o = last.4 a.0 v a.1 f n in
          let other : length v ≡ length w → ⊥ = λ e.
          let same : v ≡ w = same_prefix x v w f last.2 e in
          let not_after : k < a.0 → ⊥ = λ h. omega (arith, o.1 h, e) in
          let not_it : k ≡ a.0 → ⊥ = λ h. let q : Some i ≡ Some j = sym at ∙ ap (slice_get numbers) h ∙ a.2 in let z : i ≡ j = cc in omega (arith, z, g) in
          let ahead : a.0 < k = omega (arith, not_after, not_it) in
          let fall : i ≤ j = rows.ties a.0 k j i w ahead (a.1 ∙ ap Some same) last.1 a.2 at in
          omega (arith, fall, g) in
          omega (arith, o.0, other)),
    )

pub best_is : (strings texts : List (List ℕ)) (numbers : List ℕ) (x : List ℕ) (b : ℕ) (o r : Option ℕ) → AreRows strings texts numbers → Numbered numbers o r → IsLast texts x b o → IsBest strings x b r
best_is strings texts numbers x b None r rows is last = let h = best_none strings texts numbers x b rows last in rw is h
best_is strings texts numbers x b (Some k) r rows is last = let h = best_some strings texts numbers x b k is.0 rows is.1 last in rw is.2 h

-- ---- links go down

pub some_at : (o : Option ℕ) (r : ℕ) (P : ℕ → Type 0) → o ≡ Some r → IfSome o P → P r
some_at None r P e h = let no : ⊥ = cc in absurd no
some_at (Some q) r P e h = let same : r ≡ q = cc in rw same h

pub stand_at : (texts : List (List ℕ)) (x : List ℕ) (b : ℕ) (o : Option ℕ) (r : ℕ) → o ≡ Some r → StandsAt texts x b o → StandsAt texts x b (Some r)
stand_at texts x b o r e h = subst (λ (k : Option ℕ). StandsAt texts x b k) e h

pub down_row : (links : List (Option ℕ)) (row : ℕ) (l at : Option ℕ) → GoDown links → slice_get links row ≡ Some l → at ≡ Some row → upto_row l < upto_row at
down_row links row None at down e is = let n : upto_row at ≡ suc row = ap upto_row is in omega (arith, n)
down_row links row (Some q) at down e is = let n : upto_row at ≡ suc row = ap upto_row is in omega (arith, n, down row q e)

pub down_below : (links : List (Option ℕ)) (row count : ℕ) (l : Option ℕ) → GoDown links → slice_get links row ≡ Some l → row < count → IfSome l (λ r. r < count)
down_below links row count None down e h = tt
down_below links row count (Some q) down e h = omega (arith, down row q e, h)

-- one more link
pub before_or_here : {X : Type 0} (xs : List X) (y v : X) (k : ℕ) (G : Type 0) → slice_get (xs ++ (y ∷ [])) k ≡ Some v → (slice_get xs k ≡ Some v → G) → (k ≡ length xs → v ≡ y → G) → G
before_or_here xs y v k G e old new = by (nat_lt k (length xs)) refl
  where
    by : (t : Bool) → nat_lt k (length xs) ≡ t → G
    by true t =
        let h : k < length xs = ltb-true k (length xs) t in
        old (slice_get-get_or xs k v h ∙ ap Some (sym (get_or_append_left xs (y ∷ []) v k h)) ∙ ap Some (get_or_from_slice_get (xs ++ (y ∷ [])) k v v e))
    by false t =
        let l : k < length (xs ++ (y ∷ [])) = slice_get_within (xs ++ (y ∷ [])) k v e in
        let n : length (xs ++ (y ∷ [])) ≡ length xs + 1 = length-append xs (y ∷ []) in
        let here : k ≡ length xs = omega (arith, l, n, ltb-false k (length xs) t) in
        new here (sym (get_or_from_slice_get (xs ++ (y ∷ [])) k v v e) ∙ get_or_push xs y v k (sym here))

pub links_more : (texts : List (List ℕ)) (links : List (Option ℕ)) (l : Option ℕ) (w : List ℕ) → AreLinks texts links → slice_get texts (length links) ≡ Some w → IsLast texts w (length w) l → AreLinks texts (links ++ (l ∷ []))
links_more texts links l w are at last r k u e s =
    before_or_here links l k r (IsLast texts u (length u) k) e (λ o. are r k u o s) (λ here is.
    let a : Some u ≡ Some w = sym s ∙ ap (slice_get texts) here ∙ at in
    let same : u ≡ w = some_text u w a in
    rw is (rw same last))

pub down_more : (links : List (Option ℕ)) (l : Option ℕ) → GoDown links → IfSome l (λ r. r < length links) → GoDown (links ++ (l ∷ []))
down_more links l down inside r q e =
    before_or_here links l (Some q) r (q < r) e (λ o. down r q o) (λ here is. let k : q < length links = some_at l q (λ r. r < length links) (sym is) inside in omega (arith, here, k))

-- what a search from the rows before a row's own found, with its arguments as they are
pub own_link : (texts : List (List ℕ)) (before_links links : List (Option ℕ)) (part w : List ℕ) (b i : ℕ) (link : Option ℕ) → before_links ≡ links → part ≡ w → b ≡ length w → (AreLinks texts before_links → StandsAt texts part b (before i) → IsLast texts part b link) → AreLinks texts links → StandsAt texts w (length w) (before i) → IsLast texts w (length w) link
own_link texts before_links links part w b i link p q r f are stand =
    let f1 : AreLinks texts links → StandsAt texts part b (before i) → IsLast texts part b link = subst (λ (ls : List (Option ℕ)). AreLinks texts ls → StandsAt texts part b (before i) → IsLast texts part b link) p f in
    let f2 : AreLinks texts links → StandsAt texts w b (before i) → IsLast texts w b link = subst (λ (y : List ℕ). AreLinks texts links → StandsAt texts y b (before i) → IsLast texts y b link) q f1 in
    let f3 : AreLinks texts links → StandsAt texts w (length w) (before i) → IsLast texts w (length w) link = subst (λ (n : ℕ). AreLinks texts links → StandsAt texts w n (before i) → IsLast texts w n link) r f2 in
    f3 are stand
