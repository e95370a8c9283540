-- The bytes of a character, and a text with one byte or one character more.
use Rattle.std.proofs.Common.{◌≡◌, ◌∙◌, ◌++◌, ◌+◌, ◌/◌, ◌%◌, ◌<◌, ◌≤◌, [], ◌∷◌, ℕ, List, true, false, take, length, nat_lt, ap, sym, refl, get_or, append_assoc, arith, tests}
use Rattle.std.specs.Char.{encode_utf8}
use Rattle.std.specs.Str.{encode_utf8_all}
use Rattle.std.proofs.lemmas.List.{append-nil, take_more}
use Rattle.std.proofs.lemmas.Str.{encodes-append}

-- the first i + 1 characters are the first i and the next one
pub one_more : (xs : List ℕ) (i c : ℕ) (old new : List ℕ) → i < length xs → c ≡ get_or xs i c → old ≡ encode_utf8_all (take i xs) → new ≡ old ++ encode_utf8 c
    → new ≡ encode_utf8_all (take (i + 1) xs)
one_more xs i c old new lt is before more =
    more ∙ ap (λ (t : List ℕ). t ++ encode_utf8 c) before ∙ ap (λ (t : List ℕ). encode_utf8_all (take i xs) ++ t) (sym (append-nil (encode_utf8 c)))
    ∙ sym (encodes-append (take i xs) (c ∷ [])) ∙ ap encode_utf8_all (ap (λ (d : ℕ). take i xs ++ d ∷ []) is ∙ sym (take_more xs i c lt))

pub two_bytes : (text t₁ t₂ : List ℕ) (a b : ℕ) → t₁ ≡ text ++ a ∷ [] → t₂ ≡ t₁ ++ b ∷ [] → t₂ ≡ text ++ a ∷ b ∷ []
two_bytes text t₁ t₂ a b e₁ e₂ = e₂ ∙ ap (λ (t : List ℕ). t ++ b ∷ []) e₁ ∙ append_assoc text (a ∷ []) (b ∷ [])

pub three_bytes : (text t₁ t₂ t₃ : List ℕ) (a b c : ℕ) → t₁ ≡ text ++ a ∷ [] → t₂ ≡ t₁ ++ b ∷ [] → t₃ ≡ t₂ ++ c ∷ [] → t₃ ≡ text ++ a ∷ b ∷ c ∷ []
three_bytes text t₁ t₂ t₃ a b c e₁ e₂ e₃ =
    e₃ ∙ ap (λ (t : List ℕ). t ++ c ∷ []) (two_bytes text t₁ t₂ a b e₁ e₂) ∙ append_assoc text (a ∷ b ∷ []) (c ∷ [])

pub four_bytes : (text t₁ t₂ t₃ t₄ : List ℕ) (a b c d : ℕ) → t₁ ≡ text ++ a ∷ [] → t₂ ≡ t₁ ++ b ∷ [] → t₃ ≡ t₂ ++ c ∷ [] → t₄ ≡ t₃ ++ d ∷ []
    → t₄ ≡ text ++ a ∷ b ∷ c ∷ d ∷ []
four_bytes text t₁ t₂ t₃ t₄ a b c d e₁ e₂ e₃ e₄ =
    e₄ ∙ ap (λ (t : List ℕ). t ++ d ∷ []) (three_bytes text t₁ t₂ t₃ a b c e₁ e₂ e₃) ∙ append_assoc text (a ∷ b ∷ c ∷ []) (d ∷ [])

pub two_byte_code : (c : ℕ) → 128 ≤ c → c < 2048 → encode_utf8 c ≡ (192 + c / 64) ∷ (128 + c % 64) ∷ []
unfolding encode_utf8
two_byte_code c low high =
    let not_one : nat_lt c 128 ≡ false = grind (arith, tests, low) in
    let is_two : nat_lt c 2048 ≡ true = grind (arith, tests, high) in
    rw (not_one, is_two) refl

pub three_byte_code : (c : ℕ) → 2048 ≤ c → c < 65536 → encode_utf8 c ≡ (224 + c / 4096) ∷ (128 + c / 64 % 64) ∷ (128 + c % 64) ∷ []
unfolding encode_utf8
three_byte_code c low high =
    let not_one : nat_lt c 128 ≡ false = grind (arith, tests, low) in
    let not_two : nat_lt c 2048 ≡ false = grind (arith, tests, low) in
    let is_three : nat_lt c 65536 ≡ true = grind (arith, tests, high) in
    rw (not_one, not_two, is_three) refl

pub four_byte_code : (c : ℕ) → 65536 ≤ c
    → encode_utf8 c ≡ (240 + c / 262144) ∷ (128 + c / 4096 % 64) ∷ (128 + c / 64 % 64) ∷ (128 + c % 64) ∷ []
unfolding encode_utf8
four_byte_code c low =
    let not_one : nat_lt c 128 ≡ false = grind (arith, tests, low) in
    let not_two : nat_lt c 2048 ≡ false = grind (arith, tests, low) in
    let not_three : nat_lt c 65536 ≡ false = grind (arith, tests, low) in
    rw (not_one, not_two, not_three) refl
