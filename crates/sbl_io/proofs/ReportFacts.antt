-- The number of bytes of the line of a record, field by field.
use Rattle.std.proofs.Common.{◌≡◌, ◌≢◌, ◌≤◌, ◌<◌, ◌+◌, ◌-◌, ◌==◌, ◌∙◌, ◌++◌, ◌∷◌, [], ℕ, zero, suc, Bool, true, false, List, Option, Some, None, take, length, min, get_or, sym, ap, refl, arith, length-append}
use Rattle.std.proofs.lemmas.Bool.{eq-eqb, ne_eqb}
use lib.Seq.{take-nil}
use Rattle.std.proofs.lemmas.List.{append-nil, take_more}
use Rattle.std.proofs.lemmas.List.Sums.{sum_by-cons, sum_by_push}
use Rattle.std.specs.List.{sum_by}
use Rattle.std.specs.Option.{unwrap_or}
use Rattle.std.specs.Prelude.{◌^◌, if◌then◌else◌}
use Rattle.csv.specs.Records.{field_at}
use Rattle.csv.specs.Writing.{escaped, field_text, fields_text, is_blank, needs_quotes, quoted}
use Rattle.csv.proofs.WriteFacts.{escaped-append}
use Rattle.sbl_io.specs.Records.{flexible, record_line}
use Rattle.sbl_io.specs.Reports.{count_of, max_count}

-- a field and what follows it
abbrev pub size : List ℕ → ℕ
size field = length (field_text flexible field) + 1

abbrev pub total : List (List ℕ) → ℕ
total fields = sum_by size fields

fields_size : (fields : List (List ℕ)) → length (fields_text flexible fields) ≡ total fields
unfolding fields_text
fields_size [] = refl
fields_size (f ∷ fields) =
    omega (arith, length-append (field_text flexible f) (fields_text flexible fields), fields_size fields, sum_by-cons size f fields)

one_field : (f : List ℕ) → total (f ∷ []) ≡ length (field_text flexible f) + 1
one_field f = omega (arith, sum_by-cons size f [])

two_fields : (f g : List ℕ) (fields : List (List ℕ)) → 2 ≤ total (f ∷ g ∷ fields)
two_fields f g fields = omega (arith, sum_by-cons size f (g ∷ fields), sum_by-cons size g fields)

-- the end of a record that shows a byte
one_end : (b : Bool) (text : List ℕ) → b ≡ false → length (text ++ ((if b then 34 ∷ 34 ∷ [] else []) ++ 10 ∷ [])) ≡ length text + 1
one_end b text off = rw off (length-append text (10 ∷ []))

blank_end : (b : Bool) (text : List ℕ) → b ≡ true → length text ≡ 0 → length (text ++ ((if b then 34 ∷ 34 ∷ [] else []) ++ 10 ∷ [])) ≡ 3
blank_end b text on none = rw on (omega (arith, none, length-append text (34 ∷ 34 ∷ 10 ∷ [])))

pub short_line : (fields : List (List ℕ)) → total fields < 2 → length (record_line fields) ≡ 3
unfolding fields_text is_blank
short_line [] short = refl
short_line (f ∷ []) short =
    let none : length (field_text flexible f) ≡ 0 = omega (arith, one_field f, short) in
    blank_end (length (field_text flexible f) == 0) (field_text flexible f ++ []) (eq-eqb _ 0 none) (ap length (append-nil (field_text flexible f)) ∙ none)
short_line (f ∷ g ∷ fields) short = absurd (omega (arith, two_fields f g fields, short))

pub long_line : (fields : List (List ℕ)) → 2 ≤ total fields → length (record_line fields) ≡ total fields
unfolding fields_text is_blank
long_line [] long = absurd (omega (arith, long))
long_line (f ∷ []) long =
    let some : length (field_text flexible f) ≢ 0 = λ none. absurd (omega (arith, one_field f, long, none)) in
    one_end (length (field_text flexible f) == 0) (field_text flexible f ++ []) (ne_eqb _ 0 some)
    ∙ ap (λ (t : List ℕ). length t + 1) (append-nil (field_text flexible f)) ∙ sym (one_field f)
long_line (f ∷ g ∷ fields) long =
    let text = field_text flexible f ++ fields_text flexible (g ∷ fields) in
    let all : length text ≡ length (field_text flexible f) + total (g ∷ fields) =
    length-append (field_text flexible f) (fields_text flexible (g ∷ fields)) ∙ ap (λ (n : ℕ). length (field_text flexible f) + n) (fields_size (g ∷ fields)) in
    one_end false text refl ∙ omega (arith, all, sum_by-cons size f (g ∷ fields))

-- ---- the code's count

pub counted_short : (fields : List (List ℕ)) (n : ℕ) → n ≡ min (total fields) max_count → n < 2 → 3 ≡ count_of (record_line fields)
counted_short fields n so short =
    let few : total fields < 2 = omega (arith, so, short) in
    omega (arith, short_line fields few)

pub counted_long : (fields : List (List ℕ)) (n : ℕ) → n ≡ min (total fields) max_count → 2 ≤ n → n ≡ count_of (record_line fields)
counted_long fields n so long =
    let many : 2 ≤ total fields = omega (arith, so, long) in
    omega (arith, so, long_line fields many)

-- one field more
pub field_more : (fields : List (List ℕ)) (i : ℕ) (f : List ℕ) → field_at fields i ≡ Some f → take (i + 1) fields ≡ take i fields ++ f ∷ []
unfolding field_at
field_more [] i f at = cc at
field_more (g ∷ fields) zero f at = by at
  where
    by : Some g ≡ Some f → g ∷ [] ≡ f ∷ []
    by e = ap (λ (o : Option (List ℕ)). unwrap_or o [] ∷ []) e
field_more (g ∷ fields) (suc i) f at =
    let on : suc i + 1 ≡ suc (i + 1) = omega arith in
    ap (λ (n : ℕ). take n (g ∷ fields)) on ∙ ap (λ (l : List (List ℕ)). g ∷ l) (field_more fields i f at)

pub no_field : (fields : List (List ℕ)) (i : ℕ) → field_at fields i ≡ None → take (i + 1) fields ≡ take i fields
unfolding field_at
no_field [] i at = take-nil (i + 1) ∙ sym (take-nil i)
no_field (g ∷ fields) zero at = cc at
no_field (g ∷ fields) (suc i) at =
    let on : suc i + 1 ≡ suc (i + 1) = omega arith in
    ap (λ (n : ℕ). take n (g ∷ fields)) on ∙ ap (λ (l : List (List ℕ)). g ∷ l) (no_field fields i at)

pub counted_field : (fields : List (List ℕ)) (i n k m o : ℕ) (f : List ℕ) → field_at fields i ≡ Some f → n ≡ min (total (take i fields)) max_count
    → k ≡ count_of (field_text flexible f) → m ≡ min (n + k) (2 ^ 64 - 1) → o ≡ min (m + 1) (2 ^ 64 - 1) → o ≡ min (total (take (i + 1) fields)) max_count
counted_field fields i n k m o f at so field sum next =
    let all : total (take (i + 1) fields) ≡ total (take i fields) + size f = ap total (field_more fields i f at) ∙ sum_by_push size (take i fields) f in
    omega (arith, all, so, field, sum, next)

pub counted_none : (fields : List (List ℕ)) (i n : ℕ) → field_at fields i ≡ None → n ≡ min (total (take i fields)) max_count → n ≡ min (total (take (i + 1) fields)) max_count
counted_none fields i n at so = so ∙ ap (λ (l : List (List ℕ)). min (total l) max_count) (sym (no_field fields i at))

-- a record after others
pub counted_record : (text line : List ℕ) (n k m : ℕ) → n ≡ count_of text → k ≡ count_of line → m ≡ min (n + k) (2 ^ 64 - 1) → m ≡ count_of (text ++ line)
counted_record text line n k m so one sum = omega (arith, so, one, sum, length-append text line)

-- ---- quotes

abbrev quote_size : Bool → ℕ
quote_size true = 2
quote_size false = 1

escaped_byte : (b : ℕ) → length (escaped flexible (b ∷ [])) ≡ quote_size (b == 34)
unfolding escaped
escaped_byte b = by (b == 34)
  where
    by : (q : Bool) → length (if q then 34 ∷ b ∷ [] else b ∷ []) ≡ quote_size q
    by true = refl
    by false = refl

escaped_more : (field : List ℕ) (i : ℕ) → i < length field
    → length (escaped flexible (take (i + 1) field)) ≡ length (escaped flexible (take i field)) + quote_size (get_or field i 0 == 34)
escaped_more field i lt =
    let b = get_or field i 0 in
    ap (λ (l : List ℕ). length (escaped flexible l)) (take_more field i 0 lt) ∙ ap length (escaped-append flexible (take i field) (b ∷ []))
    ∙ length-append (escaped flexible (take i field)) (escaped flexible (b ∷ [])) ∙ ap (λ (n : ℕ). length (escaped flexible (take i field)) + n) (escaped_byte b)

pub quote_more : (field : List ℕ) (i n m : ℕ) → i < length field → get_or field i 0 ≡ 34 → n + i ≡ length (escaped flexible (take i field)) → m ≡ n + 1
    → m + (i + 1) ≡ length (escaped flexible (take (i + 1) field))
quote_more field i n m lt quote so next =
    let two : quote_size (get_or field i 0 == 34) ≡ 2 = ap quote_size (eq-eqb (get_or field i 0) 34 quote) in
    omega (arith, so, next, escaped_more field i lt, two)

pub other_more : (field : List ℕ) (i n m : ℕ) → i < length field → get_or field i 0 ≢ 34 → n + i ≡ length (escaped flexible (take i field)) → m ≡ n
    → m + (i + 1) ≡ length (escaped flexible (take (i + 1) field))
other_more field i n m lt other so same =
    let one : quote_size (get_or field i 0 == 34) ≡ 1 = ap quote_size (ne_eqb (get_or field i 0) 34 other) in
    omega (arith, so, same, escaped_more field i lt, one)

-- ---- fields

pub plain_field : (field : List ℕ) (b : Bool) (k : ℕ) → b ≡ needs_quotes flexible field → b ≡ false → k ≡ length field → k ≤ max_count → k ≡ count_of (field_text flexible field)
plain_field field b k test off len fits =
    let plain : field_text flexible field ≡ field = ap (λ (q : Bool). if q then quoted flexible field else field) (sym test ∙ off) in
    omega (arith, len, fits, ap length plain)

pub quoted_field : (field : List ℕ) (b : Bool) (quotes k n m : ℕ) → b ≡ needs_quotes flexible field → b ≡ true → k ≡ length field
    → quotes + length field ≡ length (escaped flexible field) → n ≡ min (k + quotes) (2 ^ 64 - 1) → m ≡ min (n + 2) (2 ^ 64 - 1) → m ≡ count_of (field_text flexible field)
quoted_field field b quotes k n m test on len marks first next =
    let whole : field_text flexible field ≡ quoted flexible field = ap (λ (q : Bool). if q then quoted flexible field else field) (sym test ∙ on) in
    let size : length (quoted flexible field) ≡ length (escaped flexible field) + 2 = omega (arith, length-append (escaped flexible field) (34 ∷ [])) in
    omega (arith, len, marks, first, next, size, ap length whole)
