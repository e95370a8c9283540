-- How the pairs that are kept follow an edit.
use Rattle.std.proofs.Common.{map, ◌≡◌, ◌∙◌, ◌||◌, ◌&&◌, ◌⊎◌, ◌<◌, ◌+◌, not, inl, inr, ℕ, suc, Bool, true, false, List, [], ◌∷◌, Option, Some, slice_index_or, drop, length, add-one, arith, refl, sym, ap, subst}
use Rattle.std.specs.List.{All}
use Rattle.std.specs.Str.{bytes_eq}
use Rattle.std.specs.BTreeSet.{BTreeSet}
use Rattle.std.proofs.Math.Seq.{drop-cons}
use Rattle.std.proofs.lemmas.List.Elements.{All-cons}
use Rattle.std.proofs.lemmas.Slice.Eq.{bytes_eq-Decides}
use Rattle.sbl_semantics.specs.Outcome.{outcome_of}
use Rattle.sbl_last_runs.specs.declared.run_trace.RunTrace.{RunTrace}
use Rattle.sbl_last_runs.specs.RunChanges.{is_changed}
use Rattle.sbl_rows.specs.Classes.{is_stem}
use Rattle.sbl_last_runs.specs.KeptEntries.{KeptWord}
use Rattle.sbl_last_runs.specs.Last.{Follows, word_found, word_run}
use Rattle.sbl_last_runs.specs.Pairs.{ArePaired, IsFollowed, IsOneMore, Key, Text, find, has, has_stem, is_pair_of}
use Rattle.sbl_last_runs.specs.declared.change.RunChange.{RunChange}
use Rattle.sbl_rows.proofs.Exchanges.{pair_of_other, pair_of_own}

-- ---- a word that is added, or taken out

found_same : (word w : List ℕ) (es : List KeptWord) → bytes_eq word w ≡ true → find w es ≡ find word es
found_same word w es h = ap (λ (x : List ℕ). find x es) (sym ((bytes_eq-Decides word w).0 h))

pub one_more : (word : List ℕ) (more es : List KeptWord) (t : RunTrace) (old new : Key → Bool) → IsOneMore word more es → Some t ≡ find word more
    → ((q : Key) → old q ≡ has_stem q.0.items (find q.1.items es)) → ((q : Key) → new q ≡ (is_pair_of word (outcome_of t.outcome) q || old q))
    → (q : Key) → new q ≡ has_stem q.0.items (find q.1.items more)
one_more word more es t old new m there was put q = put q ∙ by (bytes_eq word q.1.items) refl
  where
    by : (b : Bool) → bytes_eq word q.1.items ≡ b → (is_pair_of word (outcome_of t.outcome) q || old q) ≡ has_stem q.0.items (find q.1.items more)
    by true h =
        let none : old q ≡ false = was q ∙ ap (has_stem q.0.items) (found_same word q.1.items es h ∙ m.absent) in
        let is : has_stem q.0.items (find q.1.items more) ≡ is_stem q.0.items (outcome_of t.outcome) = ap (has_stem q.0.items) (found_same word q.1.items more h ∙ sym there) in
        ap (λ (b : Bool). b || old q) (pair_of_own word (outcome_of t.outcome) q h) ∙ ap (λ (b : Bool). is_stem q.0.items (outcome_of t.outcome) || b) none ∙ or_false (is_stem q.0.items (outcome_of t.outcome)) ∙ sym is
      where
        or_false : (a : Bool) → (a || false) ≡ a
        or_false true = refl
        or_false false = refl
    by false h = ap (λ (b : Bool). b || old q) (pair_of_other word (outcome_of t.outcome) q h) ∙ was q ∙ ap (has_stem q.0.items) (sym (m.others q.1 h))

pub one_less : (word : List ℕ) (more es : List KeptWord) (t : RunTrace) (old new : Key → Bool) → IsOneMore word more es → find word more ≡ Some t
    → ((q : Key) → old q ≡ has_stem q.0.items (find q.1.items more)) → ((q : Key) → new q ≡ (not (is_pair_of word (outcome_of t.outcome) q) && old q))
    → (q : Key) → new q ≡ has_stem q.0.items (find q.1.items es)
one_less word more es t old new m there was taken q = taken q ∙ by (bytes_eq word q.1.items) refl
  where
    not_both : (a : Bool) → (not a && a) ≡ false
    not_both true = refl
    not_both false = refl

    by : (b : Bool) → bytes_eq word q.1.items ≡ b → (not (is_pair_of word (outcome_of t.outcome) q) && old q) ≡ has_stem q.0.items (find q.1.items es)
    by true h =
        let is : old q ≡ is_stem q.0.items (outcome_of t.outcome) = was q ∙ ap (has_stem q.0.items) (found_same word q.1.items more h ∙ there) in
        let none : has_stem q.0.items (find q.1.items es) ≡ false = ap (has_stem q.0.items) (found_same word q.1.items es h ∙ m.absent) in
        ap (λ (b : Bool). not b && old q) (pair_of_own word (outcome_of t.outcome) q h) ∙ ap (λ (b : Bool). not (is_stem q.0.items (outcome_of t.outcome)) && b) is ∙ not_both (is_stem q.0.items (outcome_of t.outcome)) ∙ sym none
    by false h = ap (λ (b : Bool). not b && old q) (pair_of_other word (outcome_of t.outcome) q h) ∙ was q ∙ ap (has_stem q.0.items) (m.others q.1 h)

-- ---- the words of an edit, one after another

-- The set has the pairs of the words as they are now, but for the words of the changes that are still to come. Of such a word it
-- has the pair before, or the one now.
pub record AreFollowedSoFar (old new : List KeptWord) (rest : List RunChange) (set : BTreeSet Key) : Type 0 where
  pub done : (q : Key) → is_changed rest q.1.items ≡ false → has set q ≡ has_stem q.0.items (find q.1.items new)
  pub either : (q : Key) → (has set q ≡ has_stem q.0.items (find q.1.items old)) ⊎ (has set q ≡ has_stem q.0.items (find q.1.items new))

pub followed_none : (old new : List KeptWord) (last : List RunChange) (set : BTreeSet Key) → Follows old last new → ArePaired old set → AreFollowedSoFar old new last set
followed_none old new last set f paired = record {
  done = λ q other. paired q ∙ ap (has_stem q.0.items) (sym (f.others q.1 other));
  either = λ q. inl (paired q);
}

pub followed_all : (old new : List KeptWord) (rest : List RunChange) (set : BTreeSet Key) → rest ≡ [] → AreFollowedSoFar old new rest set → ArePaired new set
followed_all old new rest set none so q = so.done q (ap (λ (l : List RunChange). is_changed l q.1.items) none)

module _ (old new : List KeptWord) (c : RunChange) (rest : List RunChange) (t : RunTrace) (s n : BTreeSet Key) (was : find c.word.items old ≡ Some c.traced) (is : Some t ≡ find c.word.items new)
    (one : (q : Key) → IsFollowed c.word.items (outcome_of c.traced.outcome) (outcome_of t.outcome) (has s) (has n) q) (so : AreFollowedSoFar old new (c ∷ rest) s) where
  own : (q : Key) → bytes_eq c.word.items q.1.items ≡ true → has n q ≡ has_stem q.0.items (find q.1.items new)
  own q h = (one q).own h (by (so.either q)) ∙ sym now
    where
      before : has_stem q.0.items (find q.1.items old) ≡ is_stem q.0.items (outcome_of c.traced.outcome)
      before = ap (has_stem q.0.items) (found_same c.word.items q.1.items old h ∙ was)

      now : has_stem q.0.items (find q.1.items new) ≡ is_stem q.0.items (outcome_of t.outcome)
      now = ap (has_stem q.0.items) (found_same c.word.items q.1.items new h ∙ sym is)

      by : (has s q ≡ has_stem q.0.items (find q.1.items old)) ⊎ (has s q ≡ has_stem q.0.items (find q.1.items new))
          → (has s q ≡ is_stem q.0.items (outcome_of c.traced.outcome)) ⊎ (has s q ≡ is_stem q.0.items (outcome_of t.outcome))
      by (inl k) = inl (k ∙ before)
      by (inr k) = inr (k ∙ now)

  followed_step : AreFollowedSoFar old new rest n
  followed_step = record {
    done = λ q other. done q other (bytes_eq c.word.items q.1.items) refl;
    either = λ q. either q (bytes_eq c.word.items q.1.items) refl;
  }
    where
      done : (q : Key) → is_changed rest q.1.items ≡ false → (b : Bool) → bytes_eq c.word.items q.1.items ≡ b → has n q ≡ has_stem q.0.items (find q.1.items new)
      done q other true h = own q h
      done q other false h = (one q).others h ∙ so.done q (ap (λ (b : Bool). b || is_changed rest q.1.items) h ∙ other)

      either : (q : Key) → (b : Bool) → bytes_eq c.word.items q.1.items ≡ b → (has n q ≡ has_stem q.0.items (find q.1.items old)) ⊎ (has n q ≡ has_stem q.0.items (find q.1.items new))
      either q true h = inr (own q h)
      either q false h = by (so.either q)
        where
          by : (has s q ≡ has_stem q.0.items (find q.1.items old)) ⊎ (has s q ≡ has_stem q.0.items (find q.1.items new))
              → (has n q ≡ has_stem q.0.items (find q.1.items old)) ⊎ (has n q ≡ has_stem q.0.items (find q.1.items new))
          by (inl k) = inl ((one q).others h ∙ k)
          by (inr k) = inr ((one q).others h ∙ k)

-- one more change is followed
pub followed_more : (old new : List KeptWord) (last : List RunChange) (i : ℕ) (d c : RunChange) (t : RunTrace) (s n : BTreeSet Key) → i < length last → c ≡ slice_index_or last i d → Follows old last new
    → Some t ≡ find c.word.items new → ((q : Key) → IsFollowed c.word.items (outcome_of c.traced.outcome) (outcome_of t.outcome) (has s) (has n) q)
    → AreFollowedSoFar old new (drop i last) s → AreFollowedSoFar old new (drop (i + 1) last) n
followed_more old new last i d c t s n below at f is one so =
    let rest = drop (i + 1) last in
    let next : drop i last ≡ c ∷ rest = drop-cons last i d below ∙ ap (λ (x : RunChange). x ∷ drop (suc i) last) (sym at) ∙ ap (λ (k : ℕ). c ∷ drop k last) (sym (add-one i)) in
    let was : find c.word.items old ≡ Some c.traced = subst (λ (x : RunChange). find x.word.items old ≡ Some x.traced) (sym at) (f.before i d below) in
    followed_step old new c rest t s n was is one (subst (λ (l : List RunChange). AreFollowedSoFar old new l s) next so)

-- ---- the runs before

heads : {A : Type 0} (x y : A) (xs ys : List A) → (x ∷ xs) ≡ (y ∷ ys) → x ≡ y
heads x y xs ys e = cc e

tails : {A : Type 0} (x y : A) (xs ys : List A) → (x ∷ xs) ≡ (y ∷ ys) → xs ≡ ys
tails x y xs ys e = cc e

-- the changes have the runs before
runs_before : (es : List KeptWord) (cs ls : List RunChange) → map word_run ls ≡ map (word_found es) cs → All (λ c. find c.word.items es ≡ Some c.traced) ls
runs_before es cs [] was = λ k d h. absurd (omega (arith, h))
runs_before es [] (l ∷ ls) was = cc was
runs_before es (c ∷ cs) (l ∷ ls) was =
    let first = heads (word_run l) (word_found es c) (map word_run ls) (map (word_found es) cs) was in
    let word : l.word.items ≡ c.word.items = ap (λ (p : List ℕ × Option RunTrace). p.0) first in
    let run : Some l.traced ≡ find c.word.items es = ap (λ (p : List ℕ × Option RunTrace). p.1) first in
    All-cons (λ (x : RunChange). find x.word.items es ≡ Some x.traced) l ls (ap (λ (x : List ℕ). find x es) word ∙ sym run)
    (runs_before es cs ls (tails (word_run l) (word_found es c) (map word_run ls) (map (word_found es) cs) was))

-- the changes have the same words
same_words : (es : List KeptWord) (cs ls : List RunChange) (w : List ℕ) → map word_run ls ≡ map (word_found es) cs → is_changed ls w ≡ is_changed cs w
same_words es [] [] w was = refl
same_words es [] (l ∷ ls) w was = cc was
same_words es (c ∷ cs) [] w was = cc was
same_words es (c ∷ cs) (l ∷ ls) w was =
    let first = heads (word_run l) (word_found es c) (map word_run ls) (map (word_found es) cs) was in
    let word : l.word.items ≡ c.word.items = ap (λ (p : List ℕ × Option RunTrace). p.0) first in
    ap (λ (x : List ℕ). bytes_eq x w || is_changed ls w) word
    ∙ ap (λ (b : Bool). bytes_eq c.word.items w || b) (same_words es cs ls w (tails (word_run l) (word_found es c) (map word_run ls) (map (word_found es) cs) was))

pub follows : (es fs : List KeptWord) (cs ls : List RunChange) → map word_run ls ≡ map (word_found es) cs
    → ((w : Text) → is_changed cs w.items ≡ false → find w.items fs ≡ find w.items es) → Follows es ls fs
follows es fs cs ls was others = record {
  before = runs_before es cs ls was;
  others = λ w h. others w (sym (same_words es cs ls w.items was) ∙ h);
}
