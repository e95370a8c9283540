-- A pair that is removed, and one that is exchanged.
use Rattle.std.proofs.Common.{◌≡◌, ◌∙◌, ◌||◌, ◌&&◌, ◌⊎◌, not, inl, inr, ℕ, Bool, true, false, cond, List, refl, ap}
use Rattle.std.specs.Str.{bytes_eq}
use Rattle.std.specs.Ordering.{is_eq}
use Rattle.std.specs.BTreeSet.{BTreeSet, Updates}
use Rattle.std.proofs.lemmas.Slice.Eq.{bytes_eq-Decides}
use Rattle.sbl_semantics.specs.Outcome.{Outcome', Stem, Refused}
use Rattle.sbl_rows.specs.ChangedRows.{same_outcome}
use Rattle.sbl_rows.specs.Classes.{is_stem}
use Rattle.sbl_rows.specs.Pairs.{IsFollowed, Key, Text, has, is_pair_of, key_cmp}
use Rattle.sbl_rows.proofs.PairFacts.{key_tied}

and_false : (a : Bool) → (a && false) ≡ false
and_false true = refl
and_false false = refl

and_true : (a : Bool) → (a && true) ≡ a
and_true true = refl
and_true false = refl

cond_not : (b x : Bool) → cond b false x ≡ (not b && x)
cond_not true x = refl
cond_not false x = refl

-- a pair that is removed
pub key_removed : (t w : Text) (s n : BTreeSet Key) → Updates key_cmp s n (t, w) false → (q : Key) → has n q ≡ (not (bytes_eq t.items q.0.items && bytes_eq w.items q.1.items) && has s q)
key_removed t w s n h q = h.0 q ∙ cond_not (is_eq (key_cmp (t, w) q)) (has s q) ∙ ap (λ (b : Bool). not b && has s q) (key_tied (t, w) q)

-- ---- one word

-- the pair of another word
pub pair_of_other : (word : List ℕ) (o : Outcome') (q : Key) → bytes_eq word q.1.items ≡ false → is_pair_of word o q ≡ false
pair_of_other word o q h = ap (λ (b : Bool). is_stem q.0.items o && b) h ∙ and_false (is_stem q.0.items o)

pub pair_of_own : (word : List ℕ) (o : Outcome') (q : Key) → bytes_eq word q.1.items ≡ true → is_pair_of word o q ≡ is_stem q.0.items o
pair_of_own word o q h = ap (λ (b : Bool). is_stem q.0.items o && b) h ∙ and_true (is_stem q.0.items o)

own_now : (now before old : Bool) → (old ≡ before) ⊎ (old ≡ now) → (now || (not before && old)) ≡ now
own_now true before old h = refl
own_now false true old h = refl
own_now false false old (inl h) = h
own_now false false old (inr h) = h

-- a word whose pair is exchanged
pub exchange_follows : (word : List ℕ) (before now : Outcome') (old new : Key → Bool) (q : Key)
    → new q ≡ (is_pair_of word now q || (not (is_pair_of word before q) && old q)) → IsFollowed word before now old new q
exchange_follows word before now old new q h = record {
  others = λ other. h ∙ ap (λ (b : Bool). b || (not (is_pair_of word before q) && old q)) (pair_of_other word now q other) ∙ ap (λ (b : Bool). not b && old q) (pair_of_other word before q other);
  own = λ same was.
      h ∙ ap (λ (b : Bool). b || (not (is_pair_of word before q) && old q)) (pair_of_own word now q same)
      ∙ ap (λ (b : Bool). is_stem q.0.items now || (not b && old q)) (pair_of_own word before q same)
      ∙ own_now (is_stem q.0.items now) (is_stem q.0.items before) (old q) was;
}

same_stem : (o p : Outcome') (stem : List ℕ) → same_outcome o p ≡ true → is_stem stem o ≡ is_stem stem p
same_stem (Stem s) (Stem t) stem h = ap (λ (x : List ℕ). bytes_eq x stem) ((bytes_eq-Decides s t).0 h)
same_stem (Stem s) (Refused g) stem h = cc h
same_stem (Refused f) (Stem t) stem h = cc h
same_stem (Refused f) (Refused g) stem h = refl

-- a word whose outcome is the same one
pub stays_followed : (word : List ℕ) (before now : Outcome') (old new : Key → Bool) (q : Key) → same_outcome before now ≡ true → new q ≡ old q → IsFollowed word before now old new q
stays_followed word before now old new q same is = record {
  others = λ other. is;
  own = λ own was. is ∙ by was;
}
  where
    by : (old q ≡ is_stem q.0.items before) ⊎ (old q ≡ is_stem q.0.items now) → old q ≡ is_stem q.0.items now
    by (inl h) = h ∙ same_stem before now q.0.items same
    by (inr h) = h
