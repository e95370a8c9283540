-- A number is read digit by digit, and stays at the largest once it is above it.
use Rattle.std.proofs.Common.{◌≡◌, ◌≢◌, ◌∙◌, ◌≤◌, ◌<◌, ◌+◌, ◌-◌, ◌*◌, ◌&&◌, ℕ, Bool, true, false, List, [], ◌∷◌, Some, None, length, drop, get_or, min, refl, sym, ap, arith}
use Rattle.std.proofs.lemmas.List.Folds.{list_all_at}
use Rattle.std.proofs.lemmas.List.{drop_all, drop_more}
use Rattle.std.specs.List.{list_all}
use Rattle.std.specs.Char.{is_ascii_digit}
use Rattle.sbl_text.specs.Tokens.{number_of}
use Rattle.sbl_text.specs.inside.TokenParts.{digits_value}
use Rattle.sbl_sessions.specs.Numbers.{number_in}
use Rattle.sbl_sessions.specs.inside.SessionParts.{max_number}

-- what is left after so many digits writes, after this number, what the whole writes
pub record Reads (text : List ℕ) (i n : ℕ) : Type 0 where
  pub digits : list_all is_ascii_digit (drop i text) ≡ list_all is_ascii_digit text
  pub value : min (digits_value n (drop i text)) max_number ≡ min (number_of text) max_number

pub reads_none : (text : List ℕ) → Reads text 0 0
reads_none text = record { digits = refl; value = refl }

-- digits after two numbers that are one up to the largest write what is one up to it
digits_capped : (text : List ℕ) (n m : ℕ) → min n max_number ≡ min m max_number → min (digits_value n text) max_number ≡ min (digits_value m text) max_number
digits_capped [] n m same = same
digits_capped (c ∷ text) n m same =
    let next : min (n * 10 + (c - 48)) max_number ≡ min (m * 10 + (c - 48)) max_number = omega (arith, same) in
    digits_capped text (n * 10 + (c - 48)) (m * 10 + (c - 48)) next

-- a digit more
pub reads_more : (text : List ℕ) (i n m : ℕ) → i < length text → Reads text i n → is_ascii_digit (get_or text i 0) ≡ true
    → m ≡ min (min (n * 10) max_number + (get_or text i 0 - 48)) max_number → Reads text (i + 1) m
reads_more text i n m within so digit next =
    let c = get_or text i 0 in
    let rest = drop (i + 1) text in
    let parts : drop i text ≡ c ∷ rest = drop_more text i 0 within in
    let digits : list_all is_ascii_digit (c ∷ rest) ≡ list_all is_ascii_digit text = sym (ap (list_all is_ascii_digit) parts) ∙ so.digits in
    let same : min m max_number ≡ min (n * 10 + (c - 48)) max_number = omega (arith, next) in
    record {
      digits = sym (ap (λ (b : Bool). b && list_all is_ascii_digit rest) digit) ∙ digits;
      value = digits_capped rest m (n * 10 + (c - 48)) same ∙ sym (ap (λ (t : List ℕ). min (digits_value n t) max_number) parts) ∙ so.value;
    }

-- all were digits
pub reads_all : (text : List ℕ) (i n : ℕ) → length text ≢ 0 → length text ≤ i → n ≤ max_number → Reads text i n → Some n ≡ number_in text
reads_all [] i n some all fits so = absurd (some refl)
reads_all (c ∷ text) i n some all fits so =
    let none : drop i (c ∷ text) ≡ [] = drop_all i (c ∷ text) all in
    let digits : list_all is_ascii_digit (c ∷ text) ≡ true = sym so.digits ∙ ap (list_all is_ascii_digit) none in
    let value : min n max_number ≡ min (number_of (c ∷ text)) max_number = sym (ap (λ (t : List ℕ). min (digits_value n t) max_number) none) ∙ so.value in
    let is : n ≡ min (number_of (c ∷ text)) max_number = omega (arith, value, fits) in
    rw digits (ap Some is)

-- a byte was no digit
pub reads_no : (text : List ℕ) (i : ℕ) → i < length text → is_ascii_digit (get_or text i 0) ≡ false → None ≡ number_in text
reads_no [] i within other = absurd (omega (arith, within))
reads_no (c ∷ text) i within other =
    let no : list_all is_ascii_digit (c ∷ text) ≡ false = list_all_at is_ascii_digit (c ∷ text) i 0 within other in
    rw no refl
