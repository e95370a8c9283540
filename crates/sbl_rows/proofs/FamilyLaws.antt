-- No row is told exactly if no pair is counted; pairs add up; words have their stems.
use Rattle.std.proofs.Common.{◌≡◌, ◌∙◌, inl, inr, ◌||◌, ◌&&◌, ◌++◌, ◌+◌, ◌*◌, Bool, true, false, not, cond, ℕ, List, [], ◌∷◌, map, length, Option, Some, None, if◌then◌else◌, option_to_list, arith, refl, sym, ap, subst}
use Rattle.std.specs.List.{All, AllByRecursion, cons_option, count_by, filter, filter_map, find, flat_map, list_any}
use Rattle.std.specs.Option.{option_map}
use Rattle.std.specs.declared.cmp.Ordering.{Ordering}
use Rattle.std.specs.declared.cmp.Ordering.TheVariants.{Less, Equal, Greater}
use Rattle.std.specs.Ordering.{is_eq}
use Rattle.std.specs.Str.{bytes_eq}
use Rattle.std.proofs.lemmas.List.Elements.{All-nil, All-cons, All-append}
use Rattle.std.proofs.lemmas.List.Sums.{sum_by-cons}
use Rattle.std.proofs.lemmas.Map.Lookups.{exact_bytes}
use Rattle.std.proofs.lemmas.Map.Text.{is_eq-slice_cmp}
use Rattle.std.proofs.lemmas.Slice.Eq.{bytes_eq-Decides}
use Rattle.sbl_rows.specs.Classes.{Pair, members_of}
use Rattle.sbl_rows.specs.Families.{FamilyResult, all_of, any_two, pair_of_word, families_of, family_of, first_with, is_in, is_unknown, other_stem, over, over_rows, pairs_across, pairs_between, pairs_in, pairs_within, same_stem, stems_of, under, under_with, with_stem}
use Rattle.sbl_rows.specs.FamiliesAreSound.{NoneApartIfNoUnder, NoneJoinedIfNoOver, PairsAddUp, UnknownHaveNoRow, UnknownRise, WordsHaveTheirStems}
use Rattle.sbl_semantics.specs.Outcome.{Outcome', Refused, Stem}
use Rattle.sbl_rows.specs.Rows.{Row}
use Rattle.sbl_rows.specs.ChangedRows.{outcome_in}
use Rattle.sbl_rows.proofs.ChangeLaws.{alike_order, none_made}
use Rattle.sbl_rows.proofs.HeadFacts.{all-first, mem-members, some}
use Rattle.sbl_rows.proofs.OrderFacts.{any-in_order, in_order-sorted, text_cmp}
use Rattle.sbl_rows.proofs.PairNumbers.{count-cons, pairs-all, pairs-any, within-either}
use Rattle.sbl_rows.proofs.Sorting.{mem}

-- ---- counts of nothing

none_counted : (t : Pair → Bool) (ps : List Pair) → count_by t ps ≡ 0 → AllByRecursion (λ q. t q ≡ false) ps
none_counted t [] e = tt
none_counted t (p ∷ ps) e = by (t p) refl (none_counted t ps)
  where
    parts : count_by t (p ∷ ps) ≡ cond (t p) 1 0 + count_by t ps
    parts = count-cons t p ps

    by : (b : Bool) → t p ≡ b → (count_by t ps ≡ 0 → AllByRecursion (λ q. t q ≡ false) ps) → (t p ≡ false) × AllByRecursion (λ q. t q ≡ false) ps
    by true f rest = let g : ◌≡◌ {A = ℕ} (cond (t p) 1 0) 1 = ap (λ (b : Bool). cond b 1 0) f in absurd (omega (arith, parts))
    by false f rest = let g : ◌≡◌ {A = ℕ} (cond (t p) 1 0) 0 = ap (λ (b : Bool). cond b 1 0) f in (f, rest (omega (arith, parts)))

count_none : (t : Pair → Bool) (ps : List Pair) → AllByRecursion (λ q. t q ≡ false) ps → count_by t ps ≡ 0
count_none t [] a = refl
count_none t (p ∷ ps) a = count-cons t p ps ∙ (λ i. cond (a.0 i) 1 0 + count_none t ps a.1 i)

-- ---- families whose words have one stem

abbrev Alike : List ℕ → List Pair → Type 0
Alike s ps = AllByRecursion (λ q. q.0 ≡ s) ps

each : (P Q : Pair → Type 0) → ((x : Pair) → P x → Q x) → (xs : List Pair) → AllByRecursion P xs → AllByRecursion Q xs
each P Q f [] a = tt
each P Q f (x ∷ xs) a = (f x a.0, each P Q f xs a.1)

same : (p q : Pair) → other_stem p q ≡ false → q.0 ≡ p.0
same p q e = by (bytes_eq p.0 q.0) refl e
  where
    by : (b : Bool) → bytes_eq p.0 q.0 ≡ b → not b ≡ false → q.0 ≡ p.0
    by true f e = sym ((bytes_eq-Decides p.0 q.0).0 f)
    by false f e = cc e

not_other : (s : List ℕ) (p q : Pair) → p.0 ≡ s → q.0 ≡ s → other_stem p q ≡ false
not_other s p q e f = ap not ((bytes_eq-Decides p.0 q.0).1 (e ∙ sym f))

alike_none : (s : List ℕ) (ps : List Pair) → Alike s ps → pairs_in other_stem ps ≡ 0
alike_none s [] a = refl
alike_none s (p ∷ ps) a = (λ i. count_none (other_stem p) ps (each (λ q. q.0 ≡ s) (λ q. other_stem p q ≡ false) (λ q f. not_other s p q a.0 f) ps a.1) i + alike_none s ps a.1 i)

stems_alike : (s : List ℕ) (ps : List Pair) → Alike s ps → AllByRecursion (λ t. t ≡ s) (map (λ p. p.0) ps)
stems_alike s [] a = tt
stems_alike s (p ∷ ps) a = (a.0, stems_alike s ps a.1)

apart_under : (ps : List Pair) → pairs_in other_stem ps ≡ 0 → under ps ≡ None
apart_under [] e = refl
apart_under (p ∷ ps) e =
    elim (alike_order p.0 (map (λ q. q.0) (p ∷ ps)) (stems_alike p.0 (p ∷ ps) all)) [
      | inl none ↦ ap (under_with p.1) none
      | inr one ↦ ap (under_with p.1) one
    ]
  where
    all : Alike p.0 (p ∷ ps)
    all = (refl, each (λ q. other_stem p q ≡ false) (λ q. q.0 ≡ p.0) (same p) ps (none_counted (other_stem p) ps (omega arith)))

-- the stem of a word is among the stems
there : (ps qs : List Pair) → ((q : List ℕ) → mem text_cmp q (map (λ p. p.0) qs) ≡ true → mem text_cmp q (map (λ p. p.0) ps) ≡ true) → AllByRecursion (λ q. mem text_cmp q.0 (map (λ p. p.0) ps) ≡ true) qs
there ps [] f = tt
there ps (q ∷ qs) f =
    (f q.0 (ap (λ (b : Bool). b || mem text_cmp q.0 (map (λ p. p.0) qs)) (is_eq-slice_cmp q.0 q.0 ∙ (bytes_eq-Decides q.0 q.0).1 refl)), there ps qs (λ t h. f t (ap (λ (b : Bool). is_eq (text_cmp t q.0) || b) h ∙ or_true (is_eq (text_cmp t q.0)))))
  where
    or_true : (b : Bool) → (b || true) ≡ true
    or_true true = refl
    or_true false = refl

under_apart : (ps : List Pair) → under ps ≡ None → pairs_in other_stem ps ≡ 0
under_apart [] e = refl
under_apart (p ∷ ps) e = by (stems_of (p ∷ ps)) e (each (λ q. mem text_cmp q.0 (map (λ r. r.0) (p ∷ ps)) ≡ true) (λ q. mem text_cmp q.0 (stems_of (p ∷ ps)) ≡ true)
    (λ q h. any-in_order (λ x. is_eq (text_cmp q.0 x)) (map (λ r. r.0) (p ∷ ps)) ∙ h) (p ∷ ps) (there (p ∷ ps) (p ∷ ps) (λ q h. h)))
  where
    is_one : (s t : List ℕ) → (is_eq (text_cmp t s) || false) ≡ true → t ≡ s
    is_one s t h = at (text_cmp t s) refl h
      where
        at : (o : Ordering) → text_cmp t s ≡ o → (is_eq o || false) ≡ true → t ≡ s
        at Less e h = cc h
        at Equal e h = exact_bytes t s e
        at Greater e h = cc h

    by : (ss : List (List ℕ)) → under_with p.1 ss ≡ None → AllByRecursion (λ q. mem text_cmp q.0 ss ≡ true) (p ∷ ps) → pairs_in other_stem (p ∷ ps) ≡ 0
    by [] e a = let f = a.0 in cc f
    by (s ∷ []) e a = alike_none s (p ∷ ps) (each (λ q. mem text_cmp q.0 (s ∷ []) ≡ true) (λ q. q.0 ≡ s) (λ q h. is_one s q.0 h) (p ∷ ps) a)
    by (s ∷ t ∷ ss) e a = cc e

apart_to : (families : List (List Pair)) → pairs_within other_stem families ≡ 0 → filter_map under families ≡ []
apart_to [] e = refl
apart_to (f ∷ families) e =
    let parts : pairs_within other_stem (f ∷ families) ≡ pairs_in other_stem f + pairs_within other_stem families = sum_by-cons (pairs_in other_stem) f families in
    let first : pairs_in other_stem f ≡ 0 = omega arith in
    let rest : pairs_within other_stem families ≡ 0 = omega arith in
    (λ i. cons_option (apart_under f first i) (filter_map under families)) ∙ apart_to families rest

none_first : {A : Type 0} (o : Option A) (xs : List A) → cons_option o xs ≡ [] → (o ≡ None) × (xs ≡ [])
none_first None xs e = (refl, e)
none_first (Some x) xs e = cc e

apart_from : (families : List (List Pair)) → filter_map under families ≡ [] → pairs_within other_stem families ≡ 0
apart_from [] e = refl
apart_from (f ∷ families) e =
    let parts : pairs_within other_stem (f ∷ families) ≡ pairs_in other_stem f + pairs_within other_stem families = sum_by-cons (pairs_in other_stem) f families in
    let none = none_first (under f) (filter_map under families) e in
    let first : pairs_in other_stem f ≡ 0 = under_apart f none.0 in
    let rest : pairs_within other_stem families ≡ 0 = apart_from families none.1 in
    omega arith

pub none_apart : NoneApartIfNoUnder
none_apart families = (apart_to families, apart_from families)

-- ---- pairs add up

pub pairs_add_up : PairsAddUp
pairs_add_up families =
    let all : pairs_in any_two (all_of families) ≡ pairs_within any_two families + pairs_across any_two families = pairs-all any_two families in
    let n : 2 * pairs_in any_two (all_of families) + length (all_of families) ≡ length (all_of families) * length (all_of families) = pairs-any (all_of families) in
    (ap (λ (k : ℕ). 2 * k + length (all_of families)) (sym all) ∙ n, within-either families)

-- ---- words have their stems

abbrev HasStem : List Row → Pair → Type 0
HasStem rows p = outcome_in rows p.1 ≡ Some (Stem p.0)

with_its_stem : (rows : List Row) (before : List (List ℕ)) (word : List ℕ) → All (HasStem rows) (option_to_list (pair_of_word rows before word))
with_its_stem rows before word = by (is_in before word)
  where
    at : (o : Option Outcome') → outcome_in rows word ≡ o → All (HasStem rows) (option_to_list (with_stem word o))
    at None e = All-nil (HasStem rows)
    at (Some (Stem s)) e = All-cons (HasStem rows) (s, word) [] e (All-nil (HasStem rows))
    at (Some (Refused n)) e = All-nil (HasStem rows)

    by : (b : Bool) → All (HasStem rows) (option_to_list (if b then None else with_stem word (outcome_in rows word)))
    by true = All-nil (HasStem rows)
    by false = at (outcome_in rows word) refl

family_stems : (rows : List Row) (before words : List (List ℕ)) → All (HasStem rows) (family_of rows before words)
family_stems rows before [] = All-nil (HasStem rows)
family_stems rows before (word ∷ words) = All-append (HasStem rows) (option_to_list (pair_of_word rows before word)) (family_of rows (word ∷ before) words) (with_its_stem rows before word) (family_stems rows (word ∷ before) words)

families_stems : (rows : List Row) (before : List (List ℕ)) (lists : List (List (List ℕ))) → All (HasStem rows) (all_of (families_of rows before lists))
families_stems rows before [] = All-nil (HasStem rows)
families_stems rows before (words ∷ lists) = All-append (HasStem rows) (family_of rows before words) (all_of (families_of rows (words ++ before) lists)) (family_stems rows before words) (families_stems rows (words ++ before) lists)

pub words_have_their_stems : WordsHaveTheirStems
words_have_their_stems rows lists = families_stems rows [] lists

-- ---- stems of several families

-- the first words with this stem
abbrev words_with : List ℕ → List (List Pair) → List (List ℕ)
words_with stem families = filter_map (first_with stem) families

no_members : (stem : List ℕ) (ps : List Pair) → AllByRecursion (λ q. bytes_eq stem q.0 ≡ false) ps → some (members_of stem ps) ≡ false
no_members stem [] a = refl
no_members stem (p ∷ ps) a = ap (λ (b : Bool). some (map (λ (q : Pair). q.1) (cond b (p ∷ filter (λ q. bytes_eq stem q.0) ps) (filter (λ q. bytes_eq stem q.0) ps)))) a.0 ∙ no_members stem ps a.1

members_none : (stem : List ℕ) (ps : List Pair) → some (members_of stem ps) ≡ false → AllByRecursion (λ q. bytes_eq stem q.0 ≡ false) ps
members_none stem [] e = tt
members_none stem (p ∷ ps) e = by (bytes_eq stem p.0) refl e (members_none stem ps)
  where
    by : (b : Bool) → bytes_eq stem p.0 ≡ b → some (map (λ (q : Pair). q.1) (cond b (p ∷ filter (λ q. bytes_eq stem q.0) ps) (filter (λ q. bytes_eq stem q.0) ps))) ≡ false
        → (some (members_of stem ps) ≡ false → AllByRecursion (λ q. bytes_eq stem q.0 ≡ false) ps) → (bytes_eq stem p.0 ≡ false) × AllByRecursion (λ q. bytes_eq stem q.0 ≡ false) ps
    by true f e rest = cc e
    by false f e rest = (f, rest e)

empty : (xs : List (List ℕ)) → some xs ≡ false → xs ≡ []
empty [] e = refl
empty (x ∷ xs) e = cc e

between_none : (ps qs : List Pair) → pairs_between same_stem ps qs ≡ 0 → (stem word : List ℕ) → first_with stem ps ≡ Some word → some (members_of stem qs) ≡ false
between_none [] qs e stem word f = cc f
between_none (p ∷ ps) qs e stem word f = by (bytes_eq stem p.0) refl f (λ h. between_none ps qs h stem word)
  where
    parts : pairs_between same_stem (p ∷ ps) qs ≡ count_by (same_stem p) qs + pairs_between same_stem ps qs
    parts = sum_by-cons (λ r. count_by (same_stem r) qs) p ps

    by : (b : Bool) → bytes_eq stem p.0 ≡ b → option_map (λ (q : Pair). q.1) (cond b (Some p) (find (λ q. bytes_eq stem q.0) ps)) ≡ Some word
        → (pairs_between same_stem ps qs ≡ 0 → first_with stem ps ≡ Some word → some (members_of stem qs) ≡ false) → some (members_of stem qs) ≡ false
    by true g f rest = subst (λ (s : List ℕ). some (members_of s qs) ≡ false) (sym ((bytes_eq-Decides stem p.0).0 g)) (no_members p.0 qs (none_counted (same_stem p) qs (omega (arith, parts))))
    by false g f rest = rest (omega (arith, parts)) f

none_between : (ps qs : List Pair) → ((stem word : List ℕ) → first_with stem ps ≡ Some word → some (members_of stem qs) ≡ false) → pairs_between same_stem ps qs ≡ 0
none_between [] qs h = refl
none_between (p ∷ ps) qs h =
    let parts : pairs_between same_stem (p ∷ ps) qs ≡ count_by (same_stem p) qs + pairs_between same_stem ps qs = sum_by-cons (λ r. count_by (same_stem r) qs) p ps in
    let none : some (members_of p.0 qs) ≡ false = h p.0 p.1 (ap (λ (b : Bool). option_map (λ (q : Pair). q.1) (cond b (Some p) (find (λ q. bytes_eq p.0 q.0) ps))) ((bytes_eq-Decides p.0 p.0).1 refl)) in
    let first : count_by (same_stem p) qs ≡ 0 = count_none (same_stem p) qs (members_none p.0 qs none) in
    let rest : pairs_between same_stem ps qs ≡ 0 = none_between ps qs later in
    omega arith
  where
    later : (stem word : List ℕ) → first_with stem ps ≡ Some word → some (members_of stem qs) ≡ false
    later stem word f = by (bytes_eq stem p.0) (h stem)
      where
        by : (b : Bool) → ((w : List ℕ) → option_map (λ (q : Pair). q.1) (cond b (Some p) (find (λ q. bytes_eq stem q.0) ps)) ≡ Some w → some (members_of stem qs) ≡ false) → some (members_of stem qs) ≡ false
        by true g = g p.1 refl
        by false g = g word f

joined_to : (families : List (List Pair)) → pairs_across same_stem families ≡ 0 → (stem : List ℕ) → over stem (words_with stem families) ≡ None
joined_to [] e stem = refl
joined_to (f ∷ families) e stem = by (first_with stem f) refl (λ h. joined_to families h stem)
  where
    first : pairs_between same_stem f (all_of families) ≡ 0
    first = omega arith

    rest : pairs_across same_stem families ≡ 0
    rest = omega arith

    by : (o : Option (List ℕ)) → first_with stem f ≡ o → (pairs_across same_stem families ≡ 0 → over stem (words_with stem families) ≡ None) → over stem (cons_option o (words_with stem families)) ≡ None
    by None g later = later rest
    by (Some word) g later = ap (λ (ws : List (List ℕ)). over stem (word ∷ ws)) (empty (words_with stem families) (sym (all-first stem families) ∙ between_none f (all_of families) first stem word g))

only : (stem word : List ℕ) (ws : List (List ℕ)) → over stem (word ∷ ws) ≡ None → ws ≡ []
only stem word [] e = refl
only stem word (w ∷ ws) e = cc e

over_later : (stem : List ℕ) (o : Option (List ℕ)) (ws : List (List ℕ)) → over stem (cons_option o ws) ≡ None → over stem ws ≡ None
over_later stem None ws e = e
over_later stem (Some word) ws e = ap (over stem) (only stem word ws e)

joined_from : (families : List (List Pair)) → ((stem : List ℕ) → over stem (words_with stem families) ≡ None) → pairs_across same_stem families ≡ 0
joined_from [] h = refl
joined_from (f ∷ families) h =
    let first : pairs_between same_stem f (all_of families) ≡ 0 = none_between f (all_of families) (λ stem word g.
    all-first stem families ∙ ap some (only stem word (words_with stem families) (ap (λ (o : Option (List ℕ)). over stem (cons_option o (words_with stem families))) (sym g) ∙ h stem))) in
    let rest : pairs_across same_stem families ≡ 0 = joined_from families (λ stem. over_later stem (first_with stem f) (words_with stem families) (h stem)) in
    omega arith

made_none : (h : List ℕ → Option FamilyResult) (ss : List (List ℕ)) → filter_map h ss ≡ [] → (s : List ℕ) → mem text_cmp s ss ≡ true → h s ≡ None
made_none h [] e s m = cc m
made_none h (x ∷ ss) e s m = by (text_cmp s x) refl m (λ n. made_none h ss n s)
  where
    none : (h x ≡ None) × (filter_map h ss ≡ [])
    none = none_first (h x) (filter_map h ss) e

    by : (o : Ordering) → text_cmp s x ≡ o → (is_eq o || mem text_cmp s ss) ≡ true → (filter_map h ss ≡ [] → mem text_cmp s ss ≡ true → h s ≡ None) → h s ≡ None
    by Less g m rest = rest none.1 m
    by Equal g m rest = ap h (exact_bytes s x g) ∙ none.0
    by Greater g m rest = rest none.1 m

rows_to : (families : List (List Pair)) → over_rows families ≡ [] → (stem : List ℕ) → over stem (words_with stem families) ≡ None
rows_to families e stem = by (mem text_cmp stem (stems_of (all_of families))) refl
  where
    by : (b : Bool) → mem text_cmp stem (stems_of (all_of families)) ≡ b → over stem (words_with stem families) ≡ None
    by true m = made_none (λ s. over s (words_with s families)) (stems_of (all_of families)) e stem m
    by false m =
        ap (over stem) (empty (words_with stem families)
        (sym (all-first stem families) ∙ sym (mem-members stem (all_of families)) ∙ sym (any-in_order (λ x. is_eq (text_cmp stem x)) (map (λ p. p.0) (all_of families))) ∙ m))

rows_from : (families : List (List Pair)) → ((stem : List ℕ) → over stem (words_with stem families) ≡ None) → over_rows families ≡ []
rows_from families h = none_made (λ s. over s (words_with s families)) (stems_of (all_of families)) (all (stems_of (all_of families)))
  where
    all : (ss : List (List ℕ)) → AllByRecursion (λ s. over s (words_with s families) ≡ None) ss
    all [] = tt
    all (s ∷ ss) = (h s, all ss)

pub none_joined : NoneJoinedIfNoOver
none_joined families = (λ e. rows_from families (joined_to families e), λ e. joined_from families (rows_to families e))

-- ---- unknown words

any-filter : (test keep : List ℕ → Bool) (ws : List (List ℕ)) → list_any test (filter keep ws) ≡ list_any (λ w. test w && keep w) ws
any-filter test keep [] = refl
any-filter test keep (w ∷ ws) = by (keep w) (any-filter test keep ws)
  where
    and_true : (b : Bool) → b ≡ (b && true)
    and_true true = refl
    and_true false = refl

    and_false : (b : Bool) → false ≡ (b && false)
    and_false true = refl
    and_false false = refl

    by : (b : Bool) → list_any test (filter keep ws) ≡ list_any (λ w. test w && keep w) ws
        → list_any test (cond b (w ∷ filter keep ws) (filter keep ws)) ≡ ((test w && b) || list_any (λ w. test w && keep w) ws)
    by true rest = λ i. and_true (test w) i || rest i
    by false rest = rest ∙ ap (λ (b : Bool). b || list_any (λ w. test w && keep w) ws) (and_false (test w))

any-one : (keep : List ℕ → Bool) (word : List ℕ) (ws : List (List ℕ)) → list_any (λ w. bytes_eq word w && keep w) ws ≡ (is_in ws word && keep word)
any-one keep word [] = refl
any-one keep word (w ∷ ws) = by (bytes_eq word w) refl (any-one keep word ws)
  where
    absorb : (a b : Bool) → (a || (b && a)) ≡ a
    absorb true b = refl
    absorb false true = refl
    absorb false false = refl

    by : (b : Bool) → bytes_eq word w ≡ b → list_any (λ w. bytes_eq word w && keep w) ws ≡ (is_in ws word && keep word)
        → ((b && keep w) || list_any (λ w. bytes_eq word w && keep w) ws) ≡ ((b || is_in ws word) && keep word)
    by true same rest =
        let one : keep w ≡ keep word = ap keep (sym ((bytes_eq-Decides word w).0 same)) in
        (λ i. one i || rest i) ∙ absorb (keep word) (is_in ws word)
    by false other rest = rest

pub unknown_rise : UnknownRise
unknown_rise rows lists = in_order-sorted (filter (is_unknown rows) (flat_map (λ l. l) lists))

pub unknown_have_no_row : UnknownHaveNoRow
unknown_have_no_row rows lists word =
    any-in_order (bytes_eq word) (filter (is_unknown rows) (flat_map (λ l. l) lists))
    ∙ any-filter (bytes_eq word) (is_unknown rows) (flat_map (λ l. l) lists)
    ∙ any-one (is_unknown rows) word (flat_map (λ l. l) lists)
