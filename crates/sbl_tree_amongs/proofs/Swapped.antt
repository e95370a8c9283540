-- Part by part: with another among in the place of one, its tokens are others, and the tokens before it and after it stay.
use Rattle.std.proofs.Common.{◌≡◌, ℕ, ◌+◌, ◌-◌, Bool, true, false, nat_eq, List, [], ◌∷◌, Option, Some, None, if◌then◌else◌, refl, sym, ap, subst, ◌∙◌, arith}
use Rattle.sbl_token.specs.Lexemes as lex
use Rattle.sbl_token.specs.declared.words.Word.TheVariants as words
use Rattle.sbl_token.specs.declared.signs.Sign.TheVariants as signs
use Rattle.sbl_ast.specs.Symbols as t
use Rattle.sbl_ast.specs.Tree.{Command, bracket, simple_, literal_, name_, non_, prefixed, counted, move_, named, splice_, setlimit_, assign_, compare_, compare_values_, among_, Rows, no_rows, row, Others, no_others, joined, Starter, no_starter, starter, Groups, bare, group}
use Rattle.sbl_ast.specs.Counts.{count_amongs, count_in_rows, count_in_others, count_in_starter, count_in_groups}
use Rattle.sbl_ast.specs.Places.{AtDepth, placed_command, placed_rows, placed_others, placed_starter, placed_groups, placed_entry, placed_entries, placed_expression}
use Rattle.sbl_ast.specs.Texts.{body, places_in}
use Rattle.sbl_ast.proofs.After.{IsBefore, entry_before, entries_before, expression_before, tree_before}
use Rattle.sbl_tree_amongs.specs.Amongs.{AmongContents, amongs, amongs_of_body, amongs_of_rows, amongs_of_others, amongs_of_starter, amongs_of_groups, nth_held, put_among, put_in_body, put_in_rows, put_in_others, put_in_starter, put_in_groups}
use Rattle.sbl_tree_amongs.specs.Replacement.{IsBetween, is_among, count_words}
use Rattle.sbl_tree_amongs.proofs.Held.{none_is_first}
use Rattle.sbl_tree_amongs.proofs.Words.{IsWithout, count_after_other, assigns_other, compares_other, count_other, joiner_other, move_other, naming_other, prefix_other, simple_other, splice_other, argument_without, expression_without, entry_without, entries_without}
use Rattle.sbl_tree_amongs.proofs.Putting.{less_none, less_two, less_three}

abbrev Ps : Type 0
Ps = List AtDepth

abbrev Hs : Type 0
Hs = List AmongContents

-- where the among with this number is there, its tokens are others; where it is not, all stay
pub record Swaps (k : ℕ) (o : Option AmongContents) (a : Starter × Groups) (old new : Ps) : Type 0 where
  pub there : (h : AmongContents) → o ≡ Some h → IsBetween k h a old new
  pub gone : o ≡ None → old ≡ new

-- a part without the word `among` before both
between : (part : Ps → Ps) → IsBefore part → IsWithout part → (k : ℕ) (h : AmongContents) (a : Starter × Groups) (r q : Ps) → IsBetween k h a r q → IsBetween k h a (part r) (part q)
between part before without k h a r q b =
    record {
      prefix = part b.prefix;
      following = b.following;
      number = b.number ∙ ap (λ (n : ℕ). n + 1) (sym (without b.prefix));
      was = ap part b.was ∙ before b.prefix (placed_command (among_ h.1 h.2) h.0 b.following);
      is = ap part b.is ∙ before b.prefix (placed_command (among_ a.0 a.1) h.0 b.following);
    }

along : (part : Ps → Ps) → IsBefore part → IsWithout part → (k : ℕ) (o : Option AmongContents) (a : Starter × Groups) (r q : Ps) → Swaps k o a r q → Swaps k o a (part r) (part q)
along part before without k o a r q s = record { there = λ h e. between part before without k h a r q (s.there h e); gone = λ e. ap part (s.gone e) }

-- another token before both
step : (x : AtDepth) → is_among x.0 ≡ false → (k : ℕ) (o : Option AmongContents) (a : Starter × Groups) (r q : Ps) → Swaps k o a r q → Swaps k o a (x ∷ r) (x ∷ q)
step x e k o a r q s = along (λ (z : Ps). x ∷ z) (λ y z. refl) (λ z. ap (λ (b : Bool). if b then count_words z + 1 else count_words z) e) k o a r q s

-- the word before both: the among has the next number
next_number : (k n : ℕ) → k - 1 ≡ n + 1 → k ≡ n + 1 + 1
next_number k n e = omega (arith, e)

between_words : (d k : ℕ) (h : AmongContents) (a : Starter × Groups) (r q : Ps) → IsBetween (k - 1) h a r q → IsBetween k h a ((lex.word words.Among, d) ∷ r) ((lex.word words.Among, d) ∷ q)
between_words d k h a r q b =
    record {
      prefix = (lex.word words.Among, d) ∷ b.prefix;
      following = b.following;
      number = next_number k (count_words b.prefix) b.number;
      was = ap (λ (z : Ps). (lex.word words.Among, d) ∷ z) b.was;
      is = ap (λ (z : Ps). (lex.word words.Among, d) ∷ z) b.is;
    }

word : (d k : ℕ) (o : Option AmongContents) (a : Starter × Groups) (r q : Ps) → Swaps (k - 1) o a r q → Swaps k o a ((lex.word words.Among, d) ∷ r) ((lex.word words.Among, d) ∷ q)
word d k o a r q s = record { there = λ h e. between_words d k h a r q (s.there h e); gone = λ e. ap (λ (z : Ps). (lex.word words.Among, d) ∷ z) (s.gone e) }

-- with the among of this number in a list
abbrev At : ℕ → Hs → Starter × Groups → Ps → Ps → Type 0
At k hs a r q = Swaps k (nth_held k hs) a r q

-- the same number in other words
number : (k m : ℕ) (hs : Hs) (a : Starter × Groups) (r q : Ps) → k ≡ m → At k hs a r q → At m hs a r q
number k m hs a r q e s = subst (λ (x : ℕ). At x hs a r q) e s

-- a part without amongs
plain : (part : Ps → Ps) → IsBefore part → IsWithout part → (k : ℕ) (hs : Hs) (a : Starter × Groups) (r q : Ps) → At (k - 0) hs a r q → At k hs a (part r) (part q)
plain part before without k hs a r q s = along part before without k (nth_held k hs) a r q (number (k - 0) k hs a r q (sym (less_none k)) s)

-- ---- the among itself

is_first : (k : ℕ) → nat_eq k 1 ≡ true → k ≡ 1
is_first k e = go k e where
  go : (m : ℕ) → nat_eq m 1 ≡ true → m ≡ 1
  go m h = grind (arith, h)

-- the among with this number: what follows it stays
itself : (s : Starter) (gs : Groups) (d k : ℕ) (a : Starter × Groups) (r q : Ps) → k ≡ 1 → r ≡ q → Swaps k (Some (d, s, gs)) a (placed_command (among_ s gs) d r) (placed_command (among_ a.0 a.1) d q)
itself s gs d k a r q first same =
    record {
      there = λ h e. let is : (d, s, gs) ≡ h = cc in
          record {
            prefix = [];
            following = r;
            number = first;
            was = ap (λ (g : AmongContents). placed_command (among_ g.1 g.2) g.0 r) is;
            is = ap (λ (z : Ps). placed_command (among_ a.0 a.1) d z) (sym same) ∙ ap (λ (g : AmongContents). placed_command (among_ a.0 a.1) g.0 r) is;
          };
      gone = λ e. absurd cc;
    }

-- an among is the one, or what is in it is looked at
at_within_groups : (s : Starter) (gs : Groups) (d k : ℕ) (rest : Hs) (a : Starter × Groups) (r q : Ps) → At (k - (1 + (count_in_starter s + count_in_groups gs))) rest a r q
    → (let s1 : Starter = put_in_starter s (k - 1) a in let g1 : Groups = put_in_groups gs (k - 1 - count_in_starter s) a in Swaps k (nth_held (k - 1) (amongs_of_starter s d (amongs_of_groups gs d rest))) a (placed_command (among_ s gs) d r) (placed_command (among_ s1 g1) d q))
    → At k (amongs (among_ s gs) d rest) a (placed_command (among_ s gs) d r) (placed_command (put_among (among_ s gs) k a) d q)
at_within_groups s gs d k rest a r q hyp inside = go (nat_eq k 1) refl where
  go : (b : Bool) → nat_eq k 1 ≡ b → Swaps k (if b then Some (d, s, gs) else nth_held (k - 1) (amongs_of_starter s d (amongs_of_groups gs d rest))) a (placed_command (among_ s gs) d r) (placed_command (if b then among_ a.0 a.1 else among_ (put_in_starter s (k - 1) a) (put_in_groups gs (k - 1 - count_in_starter s) a)) d q)
  go true e = itself s gs d k a r q (is_first k e) (hyp.gone (ap (λ (x : ℕ). nth_held x rest) (omega (arith, is_first k e)) ∙ none_is_first rest))
  go false e = inside

mutual
  tree_swaps : (a : Starter × Groups) (c : Command) (d k : ℕ) (rest : Hs) (r q : Ps) → At (k - count_amongs c) rest a r q → At k (amongs c d rest) a (placed_command c d r) (placed_command (put_among c k a) d q)
  tree_swaps a (bracket rs) d k rest r q s =
      let o = nth_held k (amongs_of_rows rs (d + 1) rest) in
      let close = step (lex.sign signs.Close, d) refl (k - count_in_rows rs) (nth_held (k - count_in_rows rs) rest) a r q s in
      step (lex.sign signs.Open, d) refl k o a (placed_rows rs (d + 1) ((lex.sign signs.Close, d) ∷ r)) (placed_rows (put_in_rows rs k a) (d + 1) ((lex.sign signs.Close, d) ∷ q)) (rows_swaps a rs (d + 1) k rest ((lex.sign signs.Close, d) ∷ r) ((lex.sign signs.Close, d) ∷ q) close)
  tree_swaps a (simple_ x) d k rest r q s = plain (placed_command (simple_ x) d) (tree_before (simple_ x) d) (λ z. count_after_other (t.simple x) d z (simple_other x)) k rest a r q s
  tree_swaps a (literal_ x) d k rest r q s = plain (placed_command (literal_ x) d) (tree_before (literal_ x) d) (λ z. refl) k rest a r q s
  tree_swaps a (name_ x) d k rest r q s = plain (placed_command (name_ x) d) (tree_before (name_ x) d) (λ z. refl) k rest a r q s
  tree_swaps a (non_ true y) d k rest r q s = plain (placed_command (non_ true y) d) (tree_before (non_ true y) d) (λ z. refl) k rest a r q s
  tree_swaps a (non_ false y) d k rest r q s = plain (placed_command (non_ false y) d) (tree_before (non_ false y) d) (λ z. refl) k rest a r q s
  tree_swaps a (prefixed p c) d k rest r q s =
      step (t.prefix p, d) (prefix_other p) k (nth_held k (amongs c (d + 1) rest)) a (placed_command c (d + 1) r) (placed_command (put_among c k a) (d + 1) q) (tree_swaps a c (d + 1) k rest r q s)
  tree_swaps a (counted n e c) d k rest r q s =
      let o = nth_held k (amongs c (d + 1) rest) in
      let old = placed_command c (d + 1) r in
      let new = placed_command (put_among c k a) (d + 1) q in
      step (t.count n, d) (count_other n) k o a (placed_expression e d old) (placed_expression e d new) (along (placed_expression e d) (expression_before e d) (expression_without e d) k o a old new (tree_swaps a c (d + 1) k rest r q s))
  tree_swaps a (move_ x y) d k rest r q s = plain (placed_command (move_ x y) d) (tree_before (move_ x y) d) (λ z. count_after_other (t.move x) d (placed_expression y d z) (move_other x) ∙ expression_without y d z) k rest a r q s
  tree_swaps a (named x y) d k rest r q s = plain (placed_command (named x y) d) (tree_before (named x y) d) (λ z. count_after_other (t.naming x) d ((lex.name y, d) ∷ z) (naming_other x)) k rest a r q s
  tree_swaps a (splice_ x y) d k rest r q s = plain (placed_command (splice_ x y) d) (tree_before (splice_ x y) d) (λ z. count_after_other (t.splice x) d ((t.argument y, d) ∷ z) (splice_other x) ∙ argument_without y d z) k rest a r q s
  tree_swaps a (setlimit_ b c) d k rest r q s =
      let m = k - count_amongs b in
      let old = (lex.word words.For, d) ∷ placed_command c (d + 1) r in
      let new = (lex.word words.For, d) ∷ placed_command (put_among c m a) (d + 1) q in
      let following = amongs c (d + 1) rest in
      let second = tree_swaps a c (d + 1) m rest r q (number (k - (count_amongs b + count_amongs c)) (m - count_amongs c) rest a r q (less_two k (count_amongs b) (count_amongs c)) s) in
      let first = tree_swaps a b (d + 1) k following old new (step (lex.word words.For, d) refl m (nth_held m following) a (placed_command c (d + 1) r) (placed_command (put_among c m a) (d + 1) q) second) in
      step (lex.word words.SetLimit, d) refl k (nth_held k (amongs b (d + 1) following)) a (placed_command b (d + 1) old) (placed_command (put_among b k a) (d + 1) new) first
  tree_swaps a (assign_ x y z) d k rest r q s = plain (placed_command (assign_ x y z) d) (tree_before (assign_ x y z) d) (λ v. count_after_other (t.assigns y) d (placed_expression z d v) (assigns_other y) ∙ expression_without z d v) k rest a r q s
  tree_swaps a (compare_ x y z) d k rest r q s = plain (placed_command (compare_ x y z) d) (tree_before (compare_ x y z) d) (λ v. count_after_other (t.compares y) d (placed_expression z d v) (compares_other y) ∙ expression_without z d v) k rest a r q s
  tree_swaps a (compare_values_ x y z) d k rest r q s = plain (placed_command (compare_values_ x y z) d) (tree_before (compare_values_ x y z) d) (λ v. expression_without x d ((t.compares y, d) ∷ placed_expression z d ((lex.sign signs.Close, d) ∷ v)) ∙ count_after_other (t.compares y) d (placed_expression z d ((lex.sign signs.Close, d) ∷ v)) (compares_other y) ∙ expression_without z d ((lex.sign signs.Close, d) ∷ v)) k rest a r q s
  tree_swaps a (among_ s0 gs) d k rest r q s =
      let n = count_in_starter s0 in
      let m = k - 1 - n in
      let old = (lex.sign signs.Close, d) ∷ r in
      let new = (lex.sign signs.Close, d) ∷ q in
      let g0 = placed_groups gs d old in
      let g1 = placed_groups (put_in_groups gs m a) d new in
      let following = amongs_of_groups gs d rest in
      let o = nth_held (k - 1) (amongs_of_starter s0 d following) in
      let last = number (k - (1 + (n + count_in_groups gs))) (m - count_in_groups gs) rest a r q (less_three k 1 n (count_in_groups gs)) s in
      let groups = groups_swaps a gs d m rest old new (step (lex.sign signs.Close, d) refl (m - count_in_groups gs) (nth_held (m - count_in_groups gs) rest) a r q last) in
      let starts = starter_swaps a s0 d (k - 1) following g0 g1 groups in
      let opened = step (lex.sign signs.Open, d) refl (k - 1) o a (placed_starter s0 d g0) (placed_starter (put_in_starter s0 (k - 1) a) d g1) starts in
      at_within_groups s0 gs d k rest a r q s (word d k o a ((lex.sign signs.Open, d) ∷ placed_starter s0 d g0) ((lex.sign signs.Open, d) ∷ placed_starter (put_in_starter s0 (k - 1) a) d g1) opened)

  rows_swaps : (a : Starter × Groups) (rs : Rows) (d k : ℕ) (rest : Hs) (r q : Ps) → At (k - count_in_rows rs) rest a r q → At k (amongs_of_rows rs d rest) a (placed_rows rs d r) (placed_rows (put_in_rows rs k a) d q)
  rows_swaps a no_rows d k rest r q s = number (k - 0) k rest a r q (sym (less_none k)) s
  rows_swaps a (row c os rs) d k rest r q s =
      let m = k - count_amongs c in
      let n = m - count_in_others os in
      let inner = amongs_of_rows rs d rest in
      let old = placed_rows rs d r in
      let new = placed_rows (put_in_rows rs n a) d q in
      let third = rows_swaps a rs d n rest r q (number (k - (count_amongs c + (count_in_others os + count_in_rows rs))) (n - count_in_rows rs) rest a r q (less_three k (count_amongs c) (count_in_others os) (count_in_rows rs)) s) in
      let second = others_swaps a os d m inner old new third in
      tree_swaps a c d k (amongs_of_others os d inner) (placed_others os d old) (placed_others (put_in_others os m a) d new) second

  others_swaps : (a : Starter × Groups) (os : Others) (d k : ℕ) (rest : Hs) (r q : Ps) → At (k - count_in_others os) rest a r q → At k (amongs_of_others os d rest) a (placed_others os d r) (placed_others (put_in_others os k a) d q)
  others_swaps a no_others d k rest r q s = number (k - 0) k rest a r q (sym (less_none k)) s
  others_swaps a (joined j c os) d k rest r q s =
      let m = k - count_amongs c in
      let inner = amongs_of_others os d rest in
      let old = placed_others os d r in
      let new = placed_others (put_in_others os m a) d q in
      let second = others_swaps a os d m rest r q (number (k - (count_amongs c + count_in_others os)) (m - count_in_others os) rest a r q (less_two k (count_amongs c) (count_in_others os)) s) in
      step (t.joiner j, d) (joiner_other j) k (nth_held k (amongs c d inner)) a (placed_command c d old) (placed_command (put_among c k a) d new) (tree_swaps a c d k inner old new second)

  starter_swaps : (a : Starter × Groups) (s0 : Starter) (d k : ℕ) (rest : Hs) (r q : Ps) → At (k - count_in_starter s0) rest a r q → At k (amongs_of_starter s0 d rest) a (placed_starter s0 d r) (placed_starter (put_in_starter s0 k a) d q)
  starter_swaps a no_starter d k rest r q s = number (k - 0) k rest a r q (sym (less_none k)) s
  starter_swaps a (starter rs) d k rest r q s =
      let e = d + 1 + 1 in
      let old = (lex.sign signs.Close, d + 1) ∷ r in
      let new = (lex.sign signs.Close, d + 1) ∷ q in
      step (lex.sign signs.Open, d + 1) refl k (nth_held k (amongs_of_rows rs e rest)) a (placed_rows rs e old) (placed_rows (put_in_rows rs k a) e new)
      (rows_swaps a rs e k rest old new (step (lex.sign signs.Close, d + 1) refl (k - count_in_rows rs) (nth_held (k - count_in_rows rs) rest) a r q s))

  groups_swaps : (a : Starter × Groups) (gs : Groups) (d k : ℕ) (rest : Hs) (r q : Ps) → At (k - count_in_groups gs) rest a r q → At k (amongs_of_groups gs d rest) a (placed_groups gs d r) (placed_groups (put_in_groups gs k a) d q)
  groups_swaps a (bare es) d k rest r q s = plain (placed_entries es d) (entries_before es d) (entries_without es d) k rest a r q s
  groups_swaps a (group x es rs gs) d k rest r q s =
      let e = d + 1 + 1 in
      let m = k - count_in_rows rs in
      let inner = amongs_of_groups gs d rest in
      let o = nth_held k (amongs_of_rows rs e inner) in
      let g0 = placed_groups gs d r in
      let g1 = placed_groups (put_in_groups gs m a) d q in
      let old = (lex.sign signs.Close, d + 1) ∷ g0 in
      let new = (lex.sign signs.Close, d + 1) ∷ g1 in
      let r0 = placed_rows rs e old in
      let r1 = placed_rows (put_in_rows rs k a) e new in
      let last = groups_swaps a gs d m rest r q (number (k - (count_in_rows rs + count_in_groups gs)) (m - count_in_groups gs) rest a r q (less_two k (count_in_rows rs) (count_in_groups gs)) s) in
      let rows = rows_swaps a rs e k inner old new (step (lex.sign signs.Close, d + 1) refl m (nth_held m inner) a g0 g1 last) in
      let opened = step (lex.sign signs.Open, d + 1) refl k o a r0 r1 rows in
      let strings = along (placed_entries es d) (entries_before es d) (entries_without es d) k o a ((lex.sign signs.Open, d + 1) ∷ r0) ((lex.sign signs.Open, d + 1) ∷ r1) opened in
      along (placed_entry x d) (entry_before x d) (entry_without x d) k o a (placed_entries es d ((lex.sign signs.Open, d + 1) ∷ r0)) (placed_entries es d ((lex.sign signs.Open, d + 1) ∷ r1)) strings

-- ---- a routine's body

body_swaps : (b : Command × Others) (k : ℕ) (a : Starter × Groups) → At k (amongs_of_body b) a (places_in body b) (places_in body (put_in_body b k a))
body_swaps b k a =
    let m = k - count_amongs b.0 in
    let none : At (m - count_in_others b.1) [] a [] [] = record { there = λ h e. absurd cc; gone = λ e. refl } in
    tree_swaps a b.0 1 k (amongs_of_others b.1 1 []) (placed_others b.1 1 []) (placed_others (put_in_others b.1 m a) 1 []) (others_swaps a b.1 1 m [] [] [] none)

pub body_one : (b : Command × Others) (k : ℕ) (a : Starter × Groups) (h : AmongContents) → nth_held k (amongs_of_body b) ≡ Some h → IsBetween k h a (places_in body b) (places_in body (put_in_body b k a))
body_one b k a h e = (body_swaps b k a).there h e

pub body_none : (b : Command × Others) (k : ℕ) (a : Starter × Groups) → nth_held k (amongs_of_body b) ≡ None → places_in body (put_in_body b k a) ≡ places_in body b
body_none b k a e = sym ((body_swaps b k a).gone e)
