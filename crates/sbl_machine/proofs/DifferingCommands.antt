-- Two commands whose differing amongs all have holes are one command with these holes.
use Rattle.std.proofs.Common.{◌≡◌, ◌∙◌, ℕ, suc, Bool, true, false, nat_eq, if◌then◌else◌, List, [], ◌∷◌, ◌++◌, Option, Some, None, refl, sym, ap, arith}
use Rattle.std.specs.List.{list_all}
use Rattle.std.specs.Option.{option_or}
use Rattle.std.proofs.lemmas.Bool.{eqb-true}
use Rattle.std.proofs.lemmas.List.Folds.{list_all-append}
use Rattle.std.proofs.lemmas.Option.{none-some, same_Some}
use Rattle.sbl_ast.specs.Counts.{count_in_among}
use Rattle.sbl_ast.specs.Tree.{Command, Rows, Others, Starter, Groups, bracket, simple_, literal_, name_, non_, prefixed, counted, move_, named, splice_, setlimit_, assign_, compare_, compare_values_, among_, no_rows, row, no_others, joined, no_starter, starter, bare, group}
use Rattle.sbl_semantics.specs.Regions.{number_after, number_after_rows, number_after_others, number_after_starter, number_after_groups}
use Rattle.sbl_semantics.specs.DiffersByParts.{when, join, differ, differ_rows, differ_others, differ_starter, differ_groups}
use Rattle.sbl_machine.specs.Holes.{hole, with_holes, rows_with_holes, others_with_holes, starter_with_holes, groups_with_holes}
use Rattle.sbl_semantics.proofs.NumberAfter.{after_is}
use Rattle.sbl_machine.proofs.HoledPuts.{hole_same}
use Rattle.sbl_semantics.proofs.SameParts.{both, name_is, simple_is, prefix_is, times_is, move_is, naming_is, splicing_is, assignment_is, comparison_is, joiner_is, flag_is, quoted_is, argument_is, expression_is, entry_is, entries_are}

-- ---- parts one after another

pub record Both {X : Type 0} (x y : Option (List X)) (ks : List X) : Type 0 where
  pub first : List X
  pub second : List X
  pub one : x ≡ Some first
  pub other : y ≡ Some second
  pub is : ks ≡ first ++ second

pub halves : {X : Type 0} (x y : Option (List X)) (ks : List X) → join x y ≡ Some ks → Both x y ks
halves (Some a) (Some b) ks e = record { first = a; second = b; one = refl; other = refl; is = sym (same_Some (a ++ b) ks e) }
halves (Some a) None ks e = absurd (none-some ks e)
halves None y ks e = absurd (none-some ks e)

pub whole : {X : Type 0} (b : Bool) (ks : List X) → when b ≡ Some ks → b ≡ true
whole true ks e = refl
whole false ks e = absurd (none-some ks e)

pub if_so : {X : Type 0} (b : Bool) (x : Option X) (k : X) → (if b then x else None) ≡ Some k → (b ≡ true) × (x ≡ Some k)
if_so true x k e = (refl, e)
if_so false x k e = absurd (none-some k e)

-- parts that are the same list nothing
pub none_listed : {X : Type 0} (b : Bool) (ks : List X) → when b ≡ Some ks → [] ≡ ks
none_listed true ks e = same_Some [] ks e
none_listed false ks e = absurd (none-some ks e)

pub all_parts : {X : Type 0} (test : X → Bool) (ks a b : List X) → ks ≡ a ++ b → list_all test ks ≡ true → (list_all test a ≡ true) × (list_all test b ≡ true)
all_parts test ks a b e h = both _ _ (sym (list_all-append test a b) ∙ sym (ap (list_all test) e) ∙ h)

-- ---- commands

module _ (holes : ℕ → Bool) where
  abbrev All : List ℕ → Type 0
  All ks = list_all holes ks ≡ true

  abbrev Alike : ℕ → ℕ → Command → Command → Type 0
  Alike k l c d = (with_holes holes k c ≡ with_holes holes l d) × (number_after c k ≡ number_after d l)

  as_many : (s t : Starter) (gs hs : Groups) (k l : ℕ) → k ≡ l → number_after (among_ s gs) k ≡ number_after (among_ t hs) l → count_in_among (s, gs) ≡ count_in_among (t, hs)
  as_many s t gs hs k l p e = let x = after_is (among_ s gs) k in let y = after_is (among_ t hs) l in omega (arith, x, y, p, e)

  after_same : (s t : Starter) (gs hs : Groups) (k l : ℕ) → k ≡ l → count_in_among (s, gs) ≡ count_in_among (t, hs) → number_after (among_ s gs) k ≡ number_after (among_ t hs) l
  after_same s t gs hs k l p e = let x = after_is (among_ s gs) k in let y = after_is (among_ t hs) l in omega (arith, x, y, p, e)

  -- an among that stands for itself
  itself : (s t : Starter) (gs hs : Groups) (k l : ℕ) → k ≡ l → (ks : List ℕ) (b : Bool) → nat_eq (count_in_among (s, gs)) (count_in_among (t, hs)) ≡ b → (if b then Some (suc k ∷ []) else None) ≡ Some ks → All ks → Alike k l (among_ s gs) (among_ t hs)
  itself s t gs hs k l p ks false e is all = absurd (none-some ks is)
  itself s t gs hs k l p ks true e is all =
      let n = eqb-true _ _ e in
      let at : holes (suc k) ≡ true = (both _ _ (ap (list_all holes) (same_Some (suc k ∷ []) ks is) ∙ all)).0 in
      let also : holes (suc l) ≡ true = sym (ap (λ j. holes (suc j)) p) ∙ at in (
        ap (λ b. if b then hole s gs else among_ (starter_with_holes holes (suc k) s) (groups_with_holes holes (number_after_starter s (suc k)) gs)) at
            ∙ hole_same t s hs gs n
            ∙ sym (ap (λ b. if b then hole t hs else among_ (starter_with_holes holes (suc l) t) (groups_with_holes holes (number_after_starter t (suc l)) hs)) also),
        after_same s t gs hs k l p n,
      )

  -- an among in which only amongs inside it differ
  inside : (s t : Starter) (gs hs : Groups) (k l : ℕ) → k ≡ l → starter_with_holes holes (suc k) s ≡ starter_with_holes holes (suc l) t
      → groups_with_holes holes (number_after_starter s (suc k)) gs ≡ groups_with_holes holes (number_after_starter t (suc l)) hs → number_after (among_ s gs) k ≡ number_after (among_ t hs) l → Alike k l (among_ s gs) (among_ t hs)
  inside s t gs hs k l p a b e =
      let h = hole_same t s hs gs (as_many s t gs hs k l p e) in
      ((λ i. if holes (suc (p i)) then h i else among_ (a i) (b i)), e)

  among_by : (s t : Starter) (gs hs : Groups) (k l : ℕ) → k ≡ l → (ks : List ℕ) → All ks → (a b : Option (List ℕ))
      → ((x : List ℕ) → a ≡ Some x → All x → (starter_with_holes holes (suc k) s ≡ starter_with_holes holes (suc l) t) × (number_after_starter s (suc k) ≡ number_after_starter t (suc l)))
      → ((y : List ℕ) → b ≡ Some y → number_after_starter s (suc k) ≡ number_after_starter t (suc l) → All y
      → (groups_with_holes holes (number_after_starter s (suc k)) gs ≡ groups_with_holes holes (number_after_starter t (suc l)) hs) × (number_after (among_ s gs) k ≡ number_after (among_ t hs) l))
      → option_or (join a b) (if nat_eq (count_in_among (s, gs)) (count_in_among (t, hs)) then Some (suc k ∷ []) else None) ≡ Some ks → Alike k l (among_ s gs) (among_ t hs)
  among_by s t gs hs k l p ks all None b first second is = itself s t gs hs k l p ks (nat_eq (count_in_among (s, gs)) (count_in_among (t, hs))) refl is all
  among_by s t gs hs k l p ks all (Some a) None first second is = itself s t gs hs k l p ks (nat_eq (count_in_among (s, gs)) (count_in_among (t, hs))) refl is all
  among_by s t gs hs k l p ks all (Some a) (Some b) first second is =
      let parts = all_parts holes ks a b (sym (same_Some (a ++ b) ks is)) all in
      let x = first a refl parts.0 in
      let y = second b refl x.1 parts.1 in
      inside s t gs hs k l p x.0 y.0 y.1

  mutual
    pub sound : (c d : Command) (k l : ℕ) → k ≡ l → (ks : List ℕ) → differ k c d ≡ Some ks → All ks → Alike k l c d
    sound (bracket rs) (bracket ss) k l p ks is all = let h = sound_rows rs ss k l p ks is all in (ap bracket h.0, h.1)
    sound (simple_ x) (simple_ y) k l p ks is all = (ap simple_ (simple_is x y (whole _ ks is)), p)
    sound (literal_ x) (literal_ y) k l p ks is all = (ap literal_ (quoted_is x y (whole _ ks is)), p)
    sound (name_ x) (name_ y) k l p ks is all = (ap name_ (name_is x y (whole _ ks is)), p)
    sound (non_ a m) (non_ b n) k l p ks is all =
        let h = both _ _ (whole _ ks is) in
        let x = flag_is a b h.0 in
        let y = name_is m n h.1 in
        ((λ i. non_ (x i) (y i)), p)
    sound (prefixed x c) (prefixed y d) k l p ks is all =
        let h = if_so _ _ ks is in
        let e = prefix_is x y h.0 in
        let j = sound c d k l p ks h.1 all in
        ((λ i. prefixed (e i) (j.0 i)), j.1)
    sound (counted x a c) (counted y b d) k l p ks is all =
        let h = if_so _ _ ks is in
        let g = both _ _ h.0 in
        let e = times_is x y g.0 in
        let f = expression_is a b g.1 in
        let j = sound c d k l p ks h.1 all in
        ((λ i. counted (e i) (f i) (j.0 i)), j.1)
    sound (move_ x a) (move_ y b) k l p ks is all =
        let h = both _ _ (whole _ ks is) in
        let e = move_is x y h.0 in
        let f = expression_is a b h.1 in
        ((λ i. move_ (e i) (f i)), p)
    sound (named x m) (named y n) k l p ks is all =
        let h = both _ _ (whole _ ks is) in
        let e = naming_is x y h.0 in
        let f = name_is m n h.1 in
        ((λ i. named (e i) (f i)), p)
    sound (splice_ x a) (splice_ y b) k l p ks is all =
        let h = both _ _ (whole _ ks is) in
        let e = splicing_is x y h.0 in
        let f = argument_is a b h.1 in
        ((λ i. splice_ (e i) (f i)), p)
    sound (setlimit_ b c) (setlimit_ d e) k l p ks is all =
        let h = halves _ _ ks is in
        let a = all_parts holes ks h.first h.second h.is all in
        let x = sound b d k l p h.first h.one a.0 in
        let y = sound c e (number_after b k) (number_after d l) x.1 h.second h.other a.1 in
        ((λ i. setlimit_ (x.0 i) (y.0 i)), y.1)
    sound (assign_ m o a) (assign_ n u b) k l p ks is all =
        let h = both _ _ (whole _ ks is) in
        let j = both _ _ h.1 in
        let e = name_is m n h.0 in
        let f = assignment_is o u j.0 in
        let g = expression_is a b j.1 in
        ((λ i. assign_ (e i) (f i) (g i)), p)
    sound (compare_ m o a) (compare_ n u b) k l p ks is all =
        let h = both _ _ (whole _ ks is) in
        let j = both _ _ h.1 in
        let e = name_is m n h.0 in
        let f = comparison_is o u j.0 in
        let g = expression_is a b j.1 in
        ((λ i. compare_ (e i) (f i) (g i)), p)
    sound (compare_values_ m o a) (compare_values_ n u b) k l p ks is all =
        let h = both _ _ (whole _ ks is) in
        let j = both _ _ h.1 in
        let e = expression_is m n h.0 in
        let f = comparison_is o u j.0 in
        let g = expression_is a b j.1 in
        ((λ i. compare_values_ (e i) (f i) (g i)), p)
    sound (among_ s gs) (among_ t hs) k l p ks is all =
        among_by s t gs hs k l p ks all (differ_starter (suc k) s t) (differ_groups (number_after_starter s (suc k)) gs hs)
        (λ a x q. sound_starter s t (suc k) (suc l) (ap suc p) a x q)
        (λ b y e q. sound_groups gs hs (number_after_starter s (suc k)) (number_after_starter t (suc l)) e b y q) is
    sound _ _ k l p ks is all = absurd (none-some ks is)

    sound_rows : (rs ss : Rows) (k l : ℕ) → k ≡ l → (ks : List ℕ) → differ_rows k rs ss ≡ Some ks → All ks → (rows_with_holes holes k rs ≡ rows_with_holes holes l ss) × (number_after_rows rs k ≡ number_after_rows ss l)
    sound_rows no_rows no_rows k l p ks is all = (refl, p)
    sound_rows (row c os rs) (row d ps ss) k l p ks is all =
        let h = halves _ _ ks is in
        let a = all_parts holes ks h.first h.second h.is all in
        let x = sound c d k l p h.first h.one a.0 in
        let j = halves _ _ h.second h.other in
        let b = all_parts holes h.second j.first j.second j.is a.1 in
        let y = sound_others os ps (number_after c k) (number_after d l) x.1 j.first j.one b.0 in
        let z = sound_rows rs ss (number_after_others os (number_after c k)) (number_after_others ps (number_after d l)) y.1 j.second j.other b.1 in
        ((λ i. row (x.0 i) (y.0 i) (z.0 i)), z.1)
    sound_rows no_rows (row d ps ss) k l p ks is all = absurd (none-some ks is)
    sound_rows (row c os rs) no_rows k l p ks is all = absurd (none-some ks is)

    pub sound_others : (os ps : Others) (k l : ℕ) → k ≡ l → (ks : List ℕ) → differ_others k os ps ≡ Some ks → All ks → (others_with_holes holes k os ≡ others_with_holes holes l ps) × (number_after_others os k ≡ number_after_others ps l)
    sound_others no_others no_others k l p ks is all = (refl, p)
    sound_others (joined x c os) (joined y d ps) k l p ks is all =
        let g = if_so _ _ ks is in
        let e = joiner_is x y g.0 in
        let h = halves _ _ ks g.1 in
        let a = all_parts holes ks h.first h.second h.is all in
        let u = sound c d k l p h.first h.one a.0 in
        let v = sound_others os ps (number_after c k) (number_after d l) u.1 h.second h.other a.1 in
        ((λ i. joined (e i) (u.0 i) (v.0 i)), v.1)
    sound_others no_others (joined y d ps) k l p ks is all = absurd (none-some ks is)
    sound_others (joined x c os) no_others k l p ks is all = absurd (none-some ks is)

    sound_starter : (s t : Starter) (k l : ℕ) → k ≡ l → (ks : List ℕ) → differ_starter k s t ≡ Some ks → All ks → (starter_with_holes holes k s ≡ starter_with_holes holes l t) × (number_after_starter s k ≡ number_after_starter t l)
    sound_starter no_starter no_starter k l p ks is all = (refl, p)
    sound_starter (starter rs) (starter ss) k l p ks is all = let h = sound_rows rs ss k l p ks is all in (ap starter h.0, h.1)
    sound_starter no_starter (starter ss) k l p ks is all = absurd (none-some ks is)
    sound_starter (starter rs) no_starter k l p ks is all = absurd (none-some ks is)

    sound_groups : (gs hs : Groups) (k l : ℕ) → k ≡ l → (ks : List ℕ) → differ_groups k gs hs ≡ Some ks → All ks → (groups_with_holes holes k gs ≡ groups_with_holes holes l hs) × (number_after_groups gs k ≡ number_after_groups hs l)
    sound_groups (bare es) (bare fs) k l p ks is all = (ap bare (entries_are es fs (whole _ ks is)), p)
    sound_groups (group e es rs gs) (group f fs ss hs) k l p ks is all =
        let g = if_so _ _ ks is in
        let w = both _ _ g.0 in
        let m = entry_is e f w.0 in
        let n = entries_are es fs w.1 in
        let h = halves _ _ ks g.1 in
        let a = all_parts holes ks h.first h.second h.is all in
        let x = sound_rows rs ss k l p h.first h.one a.0 in
        let y = sound_groups gs hs (number_after_rows rs k) (number_after_rows ss l) x.1 h.second h.other a.1 in
        ((λ i. group (m i) (n i) (x.0 i) (y.0 i)), y.1)
    sound_groups (bare es) (group f fs ss hs) k l p ks is all = absurd (none-some ks is)
    sound_groups (group e es rs gs) (bare fs) k l p ks is all = absurd (none-some ks is)
