-- A pair that is inserted into the set.
use Rattle.std.proofs.Common.{◌≡◌, ◌∙◌, ◌&&◌, ◌||◌, Bool, true, false, cond, refl, ap, ap₂}
use Rattle.std.specs.Str.{bytes_eq}
use Rattle.std.specs.Ordering.{is_eq, ordering_then}
use Rattle.std.specs.declared.cmp.Ordering.{Ordering}
use Rattle.std.specs.declared.cmp.Ordering.TheVariants.{Less, Equal, Greater}
use Rattle.std.specs.BTreeSet.{BTreeSet, Updates}
use Rattle.std.proofs.lemmas.Map.Text.{is_eq-slice_cmp}
use Rattle.sbl_semantics.specs.Outcome as rows
use Rattle.sbl_rows.specs.Pairs.{Key, Text, has, is_pair_of, key_cmp}

pub then_eq : (a b : Ordering) → is_eq (ordering_then a b) ≡ (is_eq a && is_eq b)
then_eq Less b = refl
then_eq Equal b = refl
then_eq Greater b = refl

-- the two halves of a pair, one by one
pub key_tied : (p q : Key) → is_eq (key_cmp p q) ≡ (bytes_eq p.0.items q.0.items && bytes_eq p.1.items q.1.items)
key_tied p q = then_eq _ _ ∙ ap₂ (λ (a b : Bool). a && b) (is_eq-slice_cmp p.0.items q.0.items) (is_eq-slice_cmp p.1.items q.1.items)

cond_or : (b x : Bool) → cond b true x ≡ (b || x)
cond_or true x = refl
cond_or false x = refl

pub pair_inserted : (t w : Text) (s n : BTreeSet Key) → Updates key_cmp s n (t, w) true → (q : Key) → has n q ≡ (is_pair_of w.items (rows.Stem t.items) q || has s q)
pair_inserted t w s n h q = h.0 q ∙ cond_or (is_eq (key_cmp (t, w) q)) (has s q) ∙ ap (λ (b : Bool). b || has s q) (key_tied (t, w) q)
