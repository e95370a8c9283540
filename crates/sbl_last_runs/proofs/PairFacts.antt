-- How the set of pairs is made, one entry after another.
use Rattle.std.proofs.Common.{◌≡◌, ◌∙◌, ◌&&◌, ◌||◌, ℕ, Bool, true, false, List, [], ◌∷◌, None, refl, sym, ap, subst}
use Rattle.std.specs.List.{AllByRecursion, IsDistinct, list_any}
use Rattle.std.specs.Map.{keys_of}
use Rattle.std.specs.Str.{bytes_eq}
use Rattle.std.specs.Ordering.{is_eq}
use Rattle.std.specs.BTreeSet.{BTreeSet}
use Rattle.std.proofs.lemmas.Slice.Eq.{bytes_eq-Decides}
use Rattle.sbl_semantics.specs.Outcome.{outcome_of}
use Rattle.sbl_last_runs.specs.KeptEntries.{KeptWord}
use Rattle.sbl_rows.specs.Classes.{is_stem}
use Rattle.sbl_last_runs.specs.Pairs.{Key, Text, ArePaired, find, has, has_stem, is_pair_of, key_cmp}

-- the pairs of the entries that are still to come, and those that the set has, are the pairs of all
abbrev pub ArePairedSoFar : List KeptWord → List KeptWord → BTreeSet Key → Type 0
ArePairedSoFar all rest set = (q : Key) → (has_stem q.0.items (find q.1.items rest) || has set q) ≡ has_stem q.0.items (find q.1.items all)

or_false : (a : Bool) → (a || false) ≡ a
or_false true = refl
or_false false = refl

now_here : (a x : Bool) → (false || ((a && true) || x)) ≡ (a || x)
now_here true x = refl
now_here false x = refl

now_away : (a h x : Bool) → (h || ((a && false) || x)) ≡ (h || x)
now_away true h x = refl
now_away false h x = refl

-- a word is not found after its own place
not_after : (e : KeptWord) (fs : List KeptWord) → AllByRecursion (λ (y : Text). bytes_eq e.0.items y.items ≡ false) (keys_of fs) → find e.0.items fs ≡ None
not_after e [] a = refl
not_after e (f ∷ fs) a = rw a.0 (not_after e fs a.1)

-- one more entry gives its pair
pub paired_more : (all es rest : List KeptWord) (s n : BTreeSet Key) (e : KeptWord) → es ≡ e ∷ rest → IsDistinct (λ (x y : Text). bytes_eq x.items y.items) (keys_of es)
    → ArePairedSoFar all es s → ((q : Key) → has n q ≡ (is_pair_of e.0.items (outcome_of e.1.outcome) q || has s q)) → ArePairedSoFar all rest n
unfolding IsDistinct
paired_more all es rest s n e split unique so_far put q =
    ap (λ (b : Bool). has_stem q.0.items (find q.1.items rest) || b) (put q) ∙ at (bytes_eq q.1.items e.0.items) refl
    ∙ ap (λ (l : List KeptWord). has_stem q.0.items (find q.1.items l) || has s q) (sym split) ∙ so_far q
  where
    distinct : IsDistinct (λ (x y : Text). bytes_eq x.items y.items) (keys_of (e ∷ rest))
    distinct = subst (λ (l : List KeptWord). IsDistinct (λ (x y : Text). bytes_eq x.items y.items) (keys_of l)) split unique

    at : (b : Bool) → bytes_eq q.1.items e.0.items ≡ b
        → (has_stem q.0.items (find q.1.items rest) || (is_pair_of e.0.items (outcome_of e.1.outcome) q || has s q)) ≡ (has_stem q.0.items (find q.1.items (e ∷ rest)) || has s q)
    at true h =
        let same : q.1.items ≡ e.0.items = (bytes_eq-Decides q.1.items e.0.items).0 h in
        let gone : has_stem q.0.items (find q.1.items rest) ≡ false = ap (λ (w : List ℕ). has_stem q.0.items (find w rest)) same ∙ ap (has_stem q.0.items) (not_after e rest distinct.0) in
        rw (gone, h, (bytes_eq-Decides e.0.items q.1.items).1 (sym same)) (now_here (is_stem q.0.items (outcome_of e.1.outcome)) (has s q))
    at false h =
        rw (h, other (bytes_eq e.0.items q.1.items) refl) (now_away (is_stem q.0.items (outcome_of e.1.outcome)) (has_stem q.0.items (find q.1.items rest)) (has s q))
      where
        other : (b : Bool) → bytes_eq e.0.items q.1.items ≡ b → bytes_eq e.0.items q.1.items ≡ false
        other false k = k
        other true k = cc (sym h ∙ (bytes_eq-Decides q.1.items e.0.items).1 (sym ((bytes_eq-Decides e.0.items q.1.items).0 k)))

-- the entries after it differ too
pub distinct_after : (es rest : List KeptWord) (e : KeptWord) → es ≡ e ∷ rest → IsDistinct (λ (x y : Text). bytes_eq x.items y.items) (keys_of es) → IsDistinct (λ (x y : Text). bytes_eq x.items y.items) (keys_of rest)
unfolding IsDistinct
distinct_after es rest e split unique = (subst (λ (l : List KeptWord). IsDistinct (λ (x y : Text). bytes_eq x.items y.items) (keys_of l)) split unique).1

-- at first the set has no pair, and at last all
pub paired_none : (es : List KeptWord) (s : BTreeSet Key) → s.keys ≡ [] → ArePairedSoFar es es s
paired_none es s none q = ap (λ (b : Bool). has_stem q.0.items (find q.1.items es) || b) (ap (λ (ks : List Key). list_any (λ k. is_eq (key_cmp q k)) ks) none) ∙ or_false (has_stem q.0.items (find q.1.items es))

pub paired_all : (all rest : List KeptWord) (s : BTreeSet Key) → rest ≡ [] → ArePairedSoFar all rest s → ArePaired all s
paired_all all rest s none so_far q = ap (λ (l : List KeptWord). has_stem q.0.items (find q.1.items l) || has s q) (sym none) ∙ so_far q
