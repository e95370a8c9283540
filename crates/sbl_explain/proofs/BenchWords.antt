-- The words of a bench, at an index.
use Rattle.std.proofs.Common.{◌≡◌, ◌∙◌, ◌||◌, ◌<◌, ℕ, zero, suc, Bool, true, false, List, [], ◌∷◌, ◌+◌, drop, get_or, length, map, refl, subst, sym, ap}
use Rattle.std.specs.Str.{bytes_eq}
use Rattle.std.proofs.lemmas.Slice.Eq.{bytes_eq-Decides}
use Rattle.sbl_bench.specs.Vocabulary.{is_word}
use Rattle.std.specs.Borrow.{Bor}
use Rattle.std.proofs.lemmas.List.{drop-map}
use Rattle.sbl_uses.specs.UnusedViews.{texts_of}
use Rattle.sbl_uses.proofs.Loops.{at_index}

-- a word of a list is there
pub word_first : (w : List ℕ) (words : List (List ℕ)) → is_word w (w ∷ words) ≡ true
word_first w words = ap (λ (b : Bool). b || is_word w words) ((bytes_eq-Decides w w).1 refl)

or_true : (b c : Bool) → c ≡ true → (b || c) ≡ true
or_true true c h = refl
or_true false c h = h

-- a word of the rest of a list is one of the list
word_dropped : (w : List ℕ) (words : List (List ℕ)) (i : ℕ) → is_word w (drop i words) ≡ true → is_word w words ≡ true
word_dropped w [] zero h = h
word_dropped w [] (suc i) h = h
word_dropped w (x ∷ words) zero h = h
word_dropped w (x ∷ words) (suc i) h = or_true (bytes_eq w x) (is_word w words) (word_dropped w words i h)

-- so is the word at an index
pub word_at : (words : List (Bor (List ℕ))) (i : ℕ) (d : Bor (List ℕ)) → i < length words → is_word (get_or words i d).now (texts_of words) ≡ true
word_at words i d lt =
    word_dropped (get_or words i d).now (texts_of words) i
    (subst (λ (ws : List (List ℕ)). is_word (get_or words i d).now ws ≡ true) (sym (at_index (λ (t : Bor (List ℕ)). t.now) words i d lt) ∙ sym (drop-map (λ (t : Bor (List ℕ)). t.now) i words)) (word_first (get_or words i d).now (texts_of (drop (i + 1) words))))
