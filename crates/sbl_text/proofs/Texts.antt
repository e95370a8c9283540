-- Texts as bytes and as characters.
use Rattle.std.proofs.Common.{◌≡◌, ◌≤◌, ℕ, List, [], ◌∷◌, ◌++◌, length, take, refl, sym, ap, subst, ◌∙◌, ◌-◌, arith, length-append}
use Rattle.std.specs.Prelude.{encode_utf8_all}
use Rattle.std.specs.List.{slice_range}
use Rattle.std.specs.Str.{chars, IsUtf8, IsCharBoundary}
use Rattle.std.proofs.lemmas.Str.{encodes-chars, encodes-append, encodes_same, IsCharBoundary-at_seam}
use Rattle.std.proofs.Math.Seq.{take-append_seam}

-- the bytes of a text that ends in another
pub bytes_before : (text rest x : List ℕ) → IsUtf8 text → IsUtf8 rest → chars text ≡ x ++ chars rest → text ≡ encode_utf8_all x ++ rest
bytes_before text rest x u v is =
    sym (encodes-chars text u) ∙ ap encode_utf8_all is ∙ encodes-append x (chars rest) ∙ ap (λ (t : List ℕ). encode_utf8_all x ++ t) (encodes-chars rest v)

pub length_before : (text rest x : List ℕ) → IsUtf8 text → IsUtf8 rest → chars text ≡ x ++ chars rest → length text - length rest ≡ length (encode_utf8_all x)
length_before text rest x u v is = omega (arith, ap length (bytes_before text rest x u v is), length-append (encode_utf8_all x) rest)

pub rest_within : (text rest x : List ℕ) → IsUtf8 text → IsUtf8 rest → chars text ≡ x ++ chars rest → length rest ≤ length text
rest_within text rest x u v is = omega (arith, ap length (bytes_before text rest x u v is), length-append (encode_utf8_all x) rest)

pub seam_before : (text rest x : List ℕ) → IsUtf8 text → IsUtf8 rest → chars text ≡ x ++ chars rest → IsCharBoundary text (length text - length rest)
seam_before text rest x u v is =
    subst (IsCharBoundary text) (sym (length_before text rest x u v is)) (IsCharBoundary-at_seam text (encode_utf8_all x) rest (bytes_before text rest x u v is) v)

pub prefix_bytes : (text rest x : List ℕ) → IsUtf8 text → IsUtf8 rest → chars text ≡ x ++ chars rest → take (length text - length rest) text ≡ encode_utf8_all x
prefix_bytes text rest x u v is =
    ap (λ (n : ℕ). take n text) (length_before text rest x u v is) ∙ ap (take (length (encode_utf8_all x))) (bytes_before text rest x u v is) ∙ take-append_seam (encode_utf8_all x) rest

pub same_chars : (bs x : List ℕ) → IsUtf8 bs → bs ≡ encode_utf8_all x → chars bs ≡ x
same_chars bs x u is = encodes_same (chars bs) x (encodes-chars bs u ∙ is)

pub from_start : (n : ℕ) (bs : List ℕ) → slice_range bs 0 n ≡ take n bs
from_start n bs = ap (λ (m : ℕ). take m bs) (omega arith)

-- ---- quotes

quote_chars : chars (39 ∷ []) ≡ 39 ∷ []
unfolding chars
quote_chars = refl

pub before_quote : (text tail x : List ℕ) (c : ℕ) → text ≡ c ∷ tail → text ≡ 39 ∷ (x ++ 39 ∷ []) → tail ≡ x ++ chars (39 ∷ [])
before_quote text tail x c h i =
    let e : tail ≡ x ++ 39 ∷ [] = cc in e ∙ ap (λ (t : List ℕ). x ++ t) (sym quote_chars)
