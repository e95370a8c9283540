-- Sets of words: what one more adds, and what they have.
use Rattle.std.proofs.Common.{◌≡◌, ◌∙◌, ◌||◌, ℕ, Bool, List, [], ◌∷◌, map, refl, sym, ap, ap₂, subst}
use Rattle.std.specs.Borrow.{Bor}
use Rattle.std.specs.BTreeMap.{is_at}
use Rattle.std.specs.BTreeSet.{insert_key}
use Rattle.std.specs.Cmp.Lexicographic.{slice_cmp}
use Rattle.std.specs.List.{list_any}
use Rattle.std.specs.Ordering.{is_eq, match_ordering, nat_cmp}
use Rattle.std.specs.Str.{bytes_eq}
use Rattle.std.specs.declared.cmp.Ordering.{Ordering}
use Rattle.std.specs.declared.cmp.Ordering.TheVariants.{Less, Equal, Greater}
use Rattle.std.proofs.lemmas.Map.Lookups.{exact_bytes}
use Rattle.std.proofs.lemmas.Map.Text.{is_eq-slice_cmp}
use Rattle.sbl_machine.proofs.TouchedOrder.{or_again, or_swap}
use Rattle.sbl_uses.specs.UnusedViews.{texts_of}

abbrev Word : Type 0
Word = Bor (List ℕ)

abbrev pub word_order : Word → Word → Ordering
word_order p q = slice_cmp nat_cmp p.now q.now

pub word_added : (ks : List Word) (k : Word) (w : List ℕ) → list_any (bytes_eq w) (texts_of (insert_key word_order ks k)) ≡ (bytes_eq w k.now || list_any (bytes_eq w) (texts_of ks))
word_added [] k w = refl
word_added (x ∷ xs) k w = by (word_order k x) refl (word_added xs k w)
  where
    by : (o : Ordering) → word_order k x ≡ o → list_any (bytes_eq w) (texts_of (insert_key word_order xs k)) ≡ (bytes_eq w k.now || list_any (bytes_eq w) (texts_of xs))
        → list_any (bytes_eq w) (texts_of (match_ordering (word_order k x) (k ∷ x ∷ xs) (x ∷ xs) (x ∷ insert_key word_order xs k))) ≡ (bytes_eq w k.now || (bytes_eq w x.now || list_any (bytes_eq w) (texts_of xs)))
    by Less h rest = rw h refl
    by Equal h rest = rw h (subst (λ (y : List ℕ). (bytes_eq w x.now || list_any (bytes_eq w) (texts_of xs)) ≡ (bytes_eq w y || (bytes_eq w x.now || list_any (bytes_eq w) (texts_of xs)))) (sym (exact_bytes k.now x.now h)) (or_again (bytes_eq w x.now) (list_any (bytes_eq w) (texts_of xs))))
    by Greater h rest = rw h (ap (λ (b : Bool). bytes_eq w x.now || b) rest ∙ or_swap (bytes_eq w x.now) (bytes_eq w k.now) (list_any (bytes_eq w) (texts_of xs)))

pub word_held : (q : Word) (ks : List Word) → list_any (is_at (word_order q)) ks ≡ list_any (bytes_eq q.now) (texts_of ks)
word_held q [] = refl
word_held q (k ∷ ks) = ap₂ (λ (a b : Bool). a || b) (is_eq-slice_cmp q.now k.now) (word_held q ks)
