-- The pairs that are kept in order are those of the rows, sorted.
use Rattle.std.proofs.Common.{◌≡◌, ◌∙◌, ◌||◌, ◌&&◌, Bool, true, false, List, [], ◌∷◌, ℕ, map, Option, Some, None, cond, slice_index_or, arith, refl, sym, ap, ap₂}
use Rattle.std.specs.List.{All, AllByRecursion, IsDistinct, list_any}
use Rattle.std.specs.List.Sorted.{IsStrictlySortedBy}
use Rattle.std.specs.Str.{bytes_eq}
use Rattle.std.specs.Cmp.Lexicographic.{slice_cmp}
use Rattle.std.specs.declared.cmp.Ordering.TheVariants.{Less}
use Rattle.std.specs.Ordering.{is_eq, nat_cmp}
use Rattle.std.specs.List.{find as find_row}
use Rattle.std.specs.Option.{option_and_then, option_map}
use Rattle.std.specs.Map.{keys_of, lookup_key}
use Rattle.std.specs.BTreeSet.{BTreeSet}
use Rattle.std.proofs.lemmas.List.Elements.{All-head, All-tail, All-cons, All-map}
use Rattle.std.proofs.lemmas.Map.Views.{All-insert_key}
use Rattle.std.proofs.lemmas.Slice.Eq.{bytes_eq-Decides}
use Rattle.std.proofs.lemmas.Map.Text.{is_eq-slice_cmp}
use Rattle.sbl_rows.specs.Setting.{Setting}
use Rattle.sbl_semantics.specs.Outcome.{Outcome', Stem, Refused, outcome_of}
use Rattle.sbl_semantics.specs.declared.outcome.Outcome.{Outcome}
use Rattle.sbl_last_runs.specs.declared.run_trace.RunTrace.{RunTrace}
use Rattle.sbl_semantics.specs.declared.outcome.Outcome.TheVariants as code
use Rattle.sbl_rows.specs.Classes.{Pair, class_of, class_with, in_order, is_stem, members_of, stem_of, stem_pairs}
use Rattle.sbl_rows.specs.inside.ClassParts.{words_with}
use Rattle.sbl_rows.specs.Grouping.{pair_cmp, pairs_in_order, with_pair}
use Rattle.sbl_last_runs.specs.KeptEntries.{KeptWord, AreFresh, words_in}
use Rattle.sbl_last_runs.specs.Pairs.{ArePaired, Key, Text, find, has, has_stem, key_cmp, plain}
use Rattle.sbl_rows.specs.Rows.{Row, rows_of}
use Rattle.sbl_rows.proofs.PairFacts.{then_eq}
use Rattle.sbl_rows.proofs.OrderFacts.{exact, members-in_order, sorted-sorted, total}
use Rattle.sbl_rows.proofs.Sorting.{mem, mem-inserted, mem-stays, from_mem, one_list}
use Rattle.sbl_last_runs.proofs.Entries.{is_key, key_found, row_shown, rows_shown}

abbrev is_in : Pair → List Pair → Bool
is_in p ps = mem pair_cmp p ps

-- ---- what sorting keeps

all-sorted : (P : Pair → Type 0) (ps : List Pair) → All P ps → All P (pairs_in_order ps)
all-sorted P [] a = a
all-sorted P (p ∷ ps) a = All-insert_key pair_cmp p P (pairs_in_order ps) (all-sorted P ps (All-tail P p ps a)) (All-head P p ps a)

mem-sorted : (ps : List Pair) → All (λ p. is_in p (pairs_in_order ps) ≡ true) ps
mem-sorted [] = λ k d h. absurd (omega (arith, h))
mem-sorted (p ∷ ps) = All-cons (λ q. is_in q (pairs_in_order (p ∷ ps)) ≡ true) p ps (mem-inserted pair_cmp total exact (pairs_in_order ps) p) (stay ps (mem-sorted ps))
  where
    stay : (qs : List Pair) → All (λ q. is_in q (pairs_in_order ps) ≡ true) qs → All (λ q. is_in q (pairs_in_order (p ∷ ps)) ≡ true) qs
    stay qs a = λ k d h. mem-stays pair_cmp total exact (pairs_in_order ps) p _ (a k d h)

-- ---- the pairs of the entries

abbrev pairs_of : List KeptWord → List Pair
pairs_of es = stem_pairs (map row_shown es)

-- a stem and a word, taken together
pair_cmp_eq : (p q : Pair) → is_eq (pair_cmp p q) ≡ (bytes_eq p.0 q.0 && bytes_eq p.1 q.1)
pair_cmp_eq p q = then_eq (slice_cmp nat_cmp p.0 q.0) (slice_cmp nat_cmp p.1 q.1) ∙ ap₂ (λ (a b : Bool). a && b) (is_eq-slice_cmp p.0 q.0) (is_eq-slice_cmp p.1 q.1)

-- a word that an entry gives a stem has its pair
has_pair : (es : List KeptWord) (s w : List ℕ) → has_stem s (find w es) ≡ true → is_in (s, w) (pairs_of es) ≡ true
has_pair [] s w h = cc h
has_pair (e ∷ es) s w h = by (bytes_eq w e.0.items) refl (has_pair es s w)
  where
    -- after any outcome the later pairs are there
    later : (o : Outcome') → is_in (s, w) (pairs_of es) ≡ true → is_in (s, w) (with_pair o e.0.items (pairs_of es)) ≡ true
    later (Stem t) k = rw k (or_true (is_eq (pair_cmp (s, w) (t, e.0.items))))
      where
        or_true : (b : Bool) → (b || true) ≡ true
        or_true true = refl
        or_true false = refl
    later (Refused f) k = k

    now : (o : Outcome') → bytes_eq w e.0.items ≡ true → is_stem s o ≡ true → is_in (s, w) (with_pair o e.0.items (pairs_of es)) ≡ true
    now (Stem t) same k =
        let there : is_eq (pair_cmp (s, w) (t, e.0.items)) ≡ true = pair_cmp_eq (s, w) (t, e.0.items) ∙ rw (same, (bytes_eq-Decides s t).1 (sym ((bytes_eq-Decides t s).0 k))) refl in
        rw there refl
    now (Refused f) same k = cc k

    by : (b : Bool) → bytes_eq w e.0.items ≡ b → (has_stem s (find w es) ≡ true → is_in (s, w) (pairs_of es) ≡ true) → is_in (s, w) (pairs_of (e ∷ es)) ≡ true
    by true same rest = now (outcome_of e.1.outcome) same (sym (ap (λ (b : Bool). has_stem s (cond b (Some e.1) (find w es))) same) ∙ h)
    by false other rest = later (outcome_of e.1.outcome) (rest (sym (ap (λ (b : Bool). has_stem s (cond b (Some e.1) (find w es))) other) ∙ h))

-- each pair of the entries, where no word stands twice, is one that the set has
all_kept : (set : List Pair) (es : List KeptWord) → IsDistinct (λ (x y : Text). bytes_eq x.items y.items) (keys_of es)
    → ((t w : Text) → has_stem t.items (find w.items es) ≡ true → is_in (t.items, w.items) set ≡ true)
    → All (λ p. is_in p set ≡ true) (pairs_of es)
unfolding IsDistinct
all_kept set [] unique there = λ k d h. absurd (omega (arith, h))
all_kept set (e ∷ es) unique there = by e.1.outcome refl (all_kept set es unique.1 (λ t w h. there t w (following t w h)))
  where
    -- a word is not found after its own place
    absent : (fs : List KeptWord) → AllByRecursion (λ (y : Text). bytes_eq e.0.items y.items ≡ false) (keys_of fs) → find e.0.items fs ≡ None
    absent [] a = refl
    absent (f ∷ fs) a = rw a.0 (absent fs a.1)

    following : (t w : Text) → has_stem t.items (find w.items es) ≡ true → has_stem t.items (find w.items (e ∷ es)) ≡ true
    following t w h = at (bytes_eq w.items e.0.items) refl
      where
        at : (b : Bool) → bytes_eq w.items e.0.items ≡ b → has_stem t.items (find w.items (e ∷ es)) ≡ true
        at true same =
            let none : has_stem t.items (find w.items es) ≡ false = ap (λ (x : List ℕ). has_stem t.items (find x es)) ((bytes_eq-Decides w.items e.0.items).0 same) ∙ ap (has_stem t.items) (absent es unique.0) in
            cc (sym none ∙ h)
        at false other = rw other h

    by : (o : Outcome) → e.1.outcome ≡ o → All (λ p. is_in p set ≡ true) (pairs_of es) → All (λ p. is_in p set ≡ true) (with_pair (outcome_of e.1.outcome) e.0.items (pairs_of es))
    by (code.Stem t) is rest =
        let found : has_stem t.items (find e.0.items (e ∷ es)) ≡ true =
        ap (λ (b : Bool). has_stem t.items (cond b (Some e.1) (find e.0.items es))) ((bytes_eq-Decides e.0.items e.0.items).1 refl)
        ∙ ap (λ (o : Outcome). is_stem t.items (outcome_of o)) is ∙ (bytes_eq-Decides t.items t.items).1 refl in
        rw is (All-cons (λ p. is_in p set ≡ true) (t.items, e.0.items) (pairs_of es) (there t e.0 found) rest)
    by (code.Refused f) is rest = rw is rest

-- ---- the set

sorted-plain : (ks : List Key) → IsStrictlySortedBy key_cmp ks → IsStrictlySortedBy pair_cmp (map plain ks)
unfolding IsStrictlySortedBy
sorted-plain [] s = tt
sorted-plain (k ∷ ks) s = (rest ks s.0, sorted-plain ks s.1)
  where
    rest : (js : List Key) → AllByRecursion (λ y. key_cmp k y ≡ Less) js → AllByRecursion (λ y. pair_cmp (plain k) y ≡ Less) (map plain js)
    rest [] a = tt
    rest (j ∷ js) a = (a.0, rest js a.1)

mem-plain : (ks : List Key) (q : Key) → is_in (plain q) (map plain ks) ≡ list_any (λ k. is_eq (key_cmp q k)) ks
mem-plain [] q = refl
mem-plain (k ∷ ks) q = ap (λ (b : Bool). is_eq (key_cmp q k) || b) (mem-plain ks q)

-- the pairs that are kept are those of the rows in order
pub kept_sorted : (script : Setting) (es : List KeptWord) (set : BTreeSet Key) → AreFresh script es → IsDistinct (λ (x y : Text). bytes_eq x.items y.items) (keys_of es)
    → ArePaired es set → IsStrictlySortedBy key_cmp set.keys → All (λ k. has set k ≡ true) set.keys
    → map plain set.keys ≡ pairs_in_order (stem_pairs (rows_of script (words_in es)))
kept_sorted script es set fresh unique paired ordered found =
    one_list pair_cmp total exact (map plain set.keys) (pairs_in_order (pairs_of es)) (sorted-plain set.keys ordered) (sorted-sorted (pairs_of es))
    (All-map (λ p. is_in p (pairs_in_order (pairs_of es)) ≡ true) plain set.keys forth)
    (all-sorted (λ p. is_in p (map plain set.keys) ≡ true) (pairs_of es) (all_kept (map plain set.keys) es unique back))
    ∙ ap (λ (rows : List Row). pairs_in_order (stem_pairs rows)) (rows_shown script es fresh)
  where
    back : (t w : Text) → has_stem t.items (find w.items es) ≡ true → is_in (t.items, w.items) (map plain set.keys) ≡ true
    back t w h = mem-plain set.keys (t, w) ∙ paired (t, w) ∙ h

    forth : All (λ k. is_in (plain k) (pairs_in_order (pairs_of es)) ≡ true) set.keys
    forth = λ i d h. one (slice_index_or set.keys i d) (found i d h)
      where
        one : (k : Key) → has set k ≡ true → is_in (plain k) (pairs_in_order (pairs_of es)) ≡ true
        one k h = from_mem pair_cmp total exact (λ p. is_in p (pairs_in_order (pairs_of es)) ≡ true) (pairs_of es) (plain k) (mem-sorted (pairs_of es)) (has_pair es k.0.items k.1.items (sym (paired k) ∙ h))

-- ---- the class of one word

-- the row of a word that has an entry
pub row_found : (script : Setting) (word : List ℕ) (es : List KeptWord) → AreFresh script es → find_row (λ (r : Row). bytes_eq word r.word) (rows_of script (words_in es)) ≡ option_map (λ t. record { word = word; outcome = outcome_of t.outcome }) (find word es)
row_found script word [] fresh = refl
row_found script word (e ∷ es) fresh = by (bytes_eq word e.0.items) refl (row_found script word es fresh.1)
  where
    by : (b : Bool) → bytes_eq word e.0.items ≡ b → find_row (λ (r : Row). bytes_eq word r.word) (rows_of script (words_in es)) ≡ option_map (λ t. record { word = word; outcome = outcome_of t.outcome }) (find word es)
        → find_row (λ (r : Row). bytes_eq word r.word) (rows_of script (words_in (e ∷ es))) ≡ option_map (λ t. record { word = word; outcome = outcome_of t.outcome }) (find word (e ∷ es))
    by true same rest = rw same (λ i. Some (record { word = sym ((bytes_eq-Decides word e.0.items).0 same) i; outcome = sym fresh.0.outcome i }))
    by false other rest = rw other rest

-- the row of a word with this run
abbrev row_at : List ℕ → RunTrace → Row
row_at word t = record { word = word; outcome = outcome_of t.outcome }

-- the row of a word, by the key that is found for it
pub row_there : (script : Setting) (word : List ℕ) (es : List KeptWord) (k : Text) (t : RunTrace) → AreFresh script es → Some k ≡ lookup_key (is_key word) es → Some t ≡ find word es
    → Some (row_at k.items t) ≡ find_row (λ (r : Row). bytes_eq word r.word) (rows_of script (words_in es))
row_there script word es k t fresh key there =
    let same : word ≡ k.items = (bytes_eq-Decides word k.items).0 (key_found word es k (sym key)) in
    ap (λ (w : List ℕ). Some (row_at w t)) (sym same) ∙ ap (option_map (row_at word)) there ∙ sym (row_found script word es fresh)

-- a word that is not found has no row
pub no_row : (script : Setting) (word : List ℕ) (es : List KeptWord) → AreFresh script es → None ≡ find word es → None ≡ find_row (λ (r : Row). bytes_eq word r.word) (rows_of script (words_in es))
no_row script word es fresh none = ap (option_map (row_at word)) none ∙ sym (row_found script word es fresh)

-- the class of a word by what its entry holds
pub class_found : (script : Setting) (es : List KeptWord) (word : List ℕ) → AreFresh script es → (o : Option RunTrace) → o ≡ find word es
    → option_map (class_with (rows_of script (words_in es))) (option_and_then (λ t. stem_of (outcome_of t.outcome)) o) ≡ class_of (rows_of script (words_in es)) word
class_found script es word fresh o is =
    ap (λ (x : Option (List ℕ)). option_map (class_with (rows_of script (words_in es))) x)
    (ap (option_and_then (λ t. stem_of (outcome_of t.outcome))) is ∙ by (find word es) ∙ ap (option_and_then (λ (r : Row). stem_of r.outcome)) (sym (row_found script word es fresh)))
  where
    by : (x : Option RunTrace) → option_and_then (λ (t : RunTrace). stem_of (outcome_of t.outcome)) x ≡ option_and_then (λ (r : Row). stem_of r.outcome) (option_map (λ t. record { word = word; outcome = outcome_of t.outcome }) x)
    by None = refl
    by (Some t) = refl

-- the words with a stem among the pairs that are kept are those of its class
pub words_kept : (script : Setting) (es : List KeptWord) (set : BTreeSet Key) (stem : List ℕ) → AreFresh script es → IsDistinct (λ (x y : Text). bytes_eq x.items y.items) (keys_of es)
    → ArePaired es set → IsStrictlySortedBy key_cmp set.keys → All (λ k. has set k ≡ true) set.keys
    → members_of stem (map plain set.keys) ≡ in_order (words_with stem (rows_of script (words_in es)))
words_kept script es set stem fresh unique paired ordered found =
    ap (members_of stem) (kept_sorted script es set fresh unique paired ordered found) ∙ members-in_order stem (stem_pairs (rows_of script (words_in es)))
