-- The fault of one word, by what is known of it.
use Rattle.std.proofs.Common.{◌≡◌, ◌∙◌, ℕ, Bool, true, false, ◌&&◌, not, if◌then◌else◌, List, [], ◌∷◌, length, Option, Some, None, refl, nat_eq, nat_lt, nat_le, ◌≤◌, ◌<◌, arith, tests}
use Rattle.sbl_bench.specs.Contents.{max_words, word_fault}
use Rattle.sbl_bench.specs.Vocabulary.{is_skipped, is_word}
use Rattle.sbl_bench.specs.declared.fault.EditFault.{EditFault}
use Rattle.sbl_bench.specs.declared.fault.EditFault.TheVariants as fault

skipped_is : (w : List ℕ) (words : List (List ℕ)) → nat_eq (length w) 0 ≡ false → is_skipped w words ≡ is_word w words
skipped_is [] words some = cc
skipped_is (c ∷ w) words some = refl

pub long_word : (words : List (List ℕ)) (w : List ℕ) → 255 < length w → Some fault.WordTooLong ≡ word_fault words w
long_word words w h = let too : nat_lt 255 (length w) ≡ true = grind (arith, tests, h) in rw too refl

pub empty_word : (words : List (List ℕ)) (w : List ℕ) → nat_eq (length w) 0 ≡ true → None ≡ word_fault words w
empty_word words [] h = refl
empty_word words (c ∷ w) h = absurd (grind (arith, tests, h))

pub other_word : (words : List (List ℕ)) (w : List ℕ) (b : Bool) → length w ≤ 255 → nat_eq (length w) 0 ≡ false
    → b ≡ (nat_le max_words (length words) && not (is_word w words)) → (if b then Some fault.Full else None) ≡ word_fault words w
other_word words w b short some is = by (is_word w words) (nat_le max_words (length words)) refl refl
  where
    low : nat_lt 255 (length w) ≡ false
    low = grind (arith, tests, short)

    by : (there full : Bool) → is_word w words ≡ there → nat_le max_words (length words) ≡ full → (if b then Some fault.Full else None) ≡ word_fault words w
    by true true h f = rw (is, h, f, low, skipped_is w words some ∙ h) refl
    by true false h f = rw (is, h, f, low, skipped_is w words some ∙ h) refl
    by false true h f = rw (is, h, f, low, skipped_is w words some ∙ h) refl
    by false false h f = rw (is, h, f, low, skipped_is w words some ∙ h) refl

pub none_unless : (o : Option EditFault) → ((f : EditFault) → o ≡ Some f → ⊥) → o ≡ None
none_unless None other = refl
none_unless (Some f) other = absurd (other f refl)

pub short_of : (words : List (List ℕ)) (w : List ℕ) → word_fault words w ≡ None → length w ≤ 255
short_of words w none = by (nat_lt 255 (length w)) refl
  where
    by : (b : Bool) → nat_lt 255 (length w) ≡ b → length w ≤ 255
    by true h = let no : Some fault.WordTooLong ≡ None = rw h at none in cc
    by false h = grind (arith, tests, h)

pub room_of : (words : List (List ℕ)) (w : List ℕ) → word_fault words w ≡ None → is_word w words ≡ false → nat_eq (length w) 0 ≡ false → length words < 100000
room_of words w none new some = by (nat_le max_words (length words)) refl
  where
    short : length w ≤ 255
    short = short_of words w none

    by : (b : Bool) → nat_le max_words (length words) ≡ b → length words < 100000
    by true h = let no : Some fault.Full ≡ None = other_word words w true short some (rw (h, new) refl) ∙ none in cc
    by false h = grind (arith, tests, h)
