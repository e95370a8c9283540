-- A word and a sign are read from how they are written.
use Rattle.std.proofs.Common.{◌≡◌, ◌∙◌, ℕ, Bool, true, false, List, [], ◌∷◌, Option, Some, None, refl, sym, ap, arith}
use Rattle.std.specs.Prelude.{◌==◌, if◌then◌else◌}
use Rattle.std.proofs.lemmas.Bool.Decides.{nat_tests}
use Rattle.sbl_token.specs.declared.signs.Sign.{Sign}
use Rattle.sbl_token.specs.declared.signs.Sign.TheVariants as sign
use Rattle.sbl_token.specs.declared.words.Word.{Word}
use Rattle.sbl_token.specs.declared.words.Word.TheVariants as word
use Rattle.sbl_token.specs.Signs.{sign_text}
use Rattle.sbl_token.specs.SignCuts.{one, with_equals, sign_of}
use Rattle.sbl_token.specs.Words.{word_of, word_text}

pub word_read : (w : Word) → word_of (word_text w) ≡ Some w
unfolding word_of
word_read word.Among = refl
word_read _ = refl

pub sign_read : (s : Sign) → sign_of (sign_text s) ≡ Some s
sign_read sign.Open = refl
sign_read _ = refl

-- ---- and each text that is a sign is how it is written

pick : (a n : ℕ) (s : Sign) (rest : Option Sign) (g : Sign) (t : List ℕ) → n ∷ t ≡ sign_text s → (rest ≡ Some g → a ∷ t ≡ sign_text g) → (if a == n then Some s else rest) ≡ Some g → a ∷ t ≡ sign_text g
pick a n s rest g t written more h = at (a == n) refl h
  where
    at : (b : Bool) → (a == n) ≡ b → (if b then Some s else rest) ≡ Some g → a ∷ t ≡ sign_text g
    at true i k = let e : a ≡ n = grind (arith, nat_tests) in let f : s ≡ g = cc in ap (λ (c : ℕ). c ∷ t) e ∙ written ∙ ap sign_text f
    at false i k = more k

one_is : (a : ℕ) (g : Sign) → one a ≡ Some g → a ∷ [] ≡ sign_text g
one_is a g = (pick a 40 sign.Open (if a == 41 then Some sign.Close else (if a == 91 then Some sign.LeftBracket else (if a == 93 then Some sign.RightBracket else (if a == 36 then Some sign.Dollar else (if a == 43 then Some sign.Plus else (if a == 45 then Some sign.Minus else (if a == 42 then Some sign.Star else (if a == 47 then Some sign.Slash else (if a == 61 then Some sign.Equals else (if a == 63 then Some sign.Question else (if a == 60 then Some sign.Less else (if a == 62 then Some sign.Greater else None)))))))))))) g [] refl (pick a 41 sign.Close (if a == 91 then Some sign.LeftBracket else (if a == 93 then Some sign.RightBracket else (if a == 36 then Some sign.Dollar else (if a == 43 then Some sign.Plus else (if a == 45 then Some sign.Minus else (if a == 42 then Some sign.Star else (if a == 47 then Some sign.Slash else (if a == 61 then Some sign.Equals else (if a == 63 then Some sign.Question else (if a == 60 then Some sign.Less else (if a == 62 then Some sign.Greater else None))))))))))) g [] refl (pick a 91 sign.LeftBracket (if a == 93 then Some sign.RightBracket else (if a == 36 then Some sign.Dollar else (if a == 43 then Some sign.Plus else (if a == 45 then Some sign.Minus else (if a == 42 then Some sign.Star else (if a == 47 then Some sign.Slash else (if a == 61 then Some sign.Equals else (if a == 63 then Some sign.Question else (if a == 60 then Some sign.Less else (if a == 62 then Some sign.Greater else None)))))))))) g [] refl (pick a 93 sign.RightBracket (if a == 36 then Some sign.Dollar else (if a == 43 then Some sign.Plus else (if a == 45 then Some sign.Minus else (if a == 42 then Some sign.Star else (if a == 47 then Some sign.Slash else (if a == 61 then Some sign.Equals else (if a == 63 then Some sign.Question else (if a == 60 then Some sign.Less else (if a == 62 then Some sign.Greater else None))))))))) g [] refl (pick a 36 sign.Dollar (if a == 43 then Some sign.Plus else (if a == 45 then Some sign.Minus else (if a == 42 then Some sign.Star else (if a == 47 then Some sign.Slash else (if a == 61 then Some sign.Equals else (if a == 63 then Some sign.Question else (if a == 60 then Some sign.Less else (if a == 62 then Some sign.Greater else None)))))))) g [] refl (pick a 43 sign.Plus (if a == 45 then Some sign.Minus else (if a == 42 then Some sign.Star else (if a == 47 then Some sign.Slash else (if a == 61 then Some sign.Equals else (if a == 63 then Some sign.Question else (if a == 60 then Some sign.Less else (if a == 62 then Some sign.Greater else None))))))) g [] refl (pick a 45 sign.Minus (if a == 42 then Some sign.Star else (if a == 47 then Some sign.Slash else (if a == 61 then Some sign.Equals else (if a == 63 then Some sign.Question else (if a == 60 then Some sign.Less else (if a == 62 then Some sign.Greater else None)))))) g [] refl (pick a 42 sign.Star (if a == 47 then Some sign.Slash else (if a == 61 then Some sign.Equals else (if a == 63 then Some sign.Question else (if a == 60 then Some sign.Less else (if a == 62 then Some sign.Greater else None))))) g [] refl (pick a 47 sign.Slash (if a == 61 then Some sign.Equals else (if a == 63 then Some sign.Question else (if a == 60 then Some sign.Less else (if a == 62 then Some sign.Greater else None)))) g [] refl (pick a 61 sign.Equals (if a == 63 then Some sign.Question else (if a == 60 then Some sign.Less else (if a == 62 then Some sign.Greater else None))) g [] refl (pick a 63 sign.Question (if a == 60 then Some sign.Less else (if a == 62 then Some sign.Greater else None)) g [] refl (pick a 60 sign.Less (if a == 62 then Some sign.Greater else None) g [] refl (pick a 62 sign.Greater None g [] refl (λ h. absurd cc))))))))))))))

with_equals_is : (a : ℕ) (g : Sign) → with_equals a ≡ Some g → a ∷ 61 ∷ [] ≡ sign_text g
with_equals_is a g = (pick a 61 sign.Same (if a == 33 then Some sign.Differs else (if a == 60 then Some sign.AtMost else (if a == 62 then Some sign.AtLeast else (if a == 43 then Some sign.PlusEquals else (if a == 45 then Some sign.MinusEquals else (if a == 42 then Some sign.StarEquals else (if a == 47 then Some sign.SlashEquals else None))))))) g (61 ∷ []) refl (pick a 33 sign.Differs (if a == 60 then Some sign.AtMost else (if a == 62 then Some sign.AtLeast else (if a == 43 then Some sign.PlusEquals else (if a == 45 then Some sign.MinusEquals else (if a == 42 then Some sign.StarEquals else (if a == 47 then Some sign.SlashEquals else None)))))) g (61 ∷ []) refl (pick a 60 sign.AtMost (if a == 62 then Some sign.AtLeast else (if a == 43 then Some sign.PlusEquals else (if a == 45 then Some sign.MinusEquals else (if a == 42 then Some sign.StarEquals else (if a == 47 then Some sign.SlashEquals else None))))) g (61 ∷ []) refl (pick a 62 sign.AtLeast (if a == 43 then Some sign.PlusEquals else (if a == 45 then Some sign.MinusEquals else (if a == 42 then Some sign.StarEquals else (if a == 47 then Some sign.SlashEquals else None)))) g (61 ∷ []) refl (pick a 43 sign.PlusEquals (if a == 45 then Some sign.MinusEquals else (if a == 42 then Some sign.StarEquals else (if a == 47 then Some sign.SlashEquals else None))) g (61 ∷ []) refl (pick a 45 sign.MinusEquals (if a == 42 then Some sign.StarEquals else (if a == 47 then Some sign.SlashEquals else None)) g (61 ∷ []) refl (pick a 42 sign.StarEquals (if a == 47 then Some sign.SlashEquals else None) g (61 ∷ []) refl (pick a 47 sign.SlashEquals None g (61 ∷ []) refl (λ h. absurd cc)))))))))

-- the second character of a sign, after the first
second : (a b n : ℕ) (s : Sign) (rest : Option Sign) (g : Sign) → a ∷ n ∷ [] ≡ sign_text s → (rest ≡ Some g → a ∷ b ∷ [] ≡ sign_text g) → (if b == n then Some s else rest) ≡ Some g → a ∷ b ∷ [] ≡ sign_text g
second a b n s rest g written more h = at (b == n) refl h
  where
    at : (p : Bool) → (b == n) ≡ p → (if p then Some s else rest) ≡ Some g → a ∷ b ∷ [] ≡ sign_text g
    at true i k = let e : b ≡ n = grind (arith, nat_tests) in let f : s ≡ g = cc in ap (λ (c : ℕ). a ∷ c ∷ []) e ∙ written ∙ ap sign_text f
    at false i k = more k

two_at : (a b : ℕ) (g : Sign) (p q r : Bool) → (b == 61) ≡ p → (a == 60) ≡ q → (b == 62) ≡ r
    → (if p then with_equals a
    else (if q then (if b == 45 then Some sign.LessMinus else (if b == 43 then Some sign.LessPlus else None))
    else (if r then (if a == 45 then Some sign.Arrow else (if a == 61 then Some sign.EqualsGreater else None)) else None))) ≡ Some g
    → a ∷ b ∷ [] ≡ sign_text g
two_at a b g true q r i j k h = let e : b ≡ 61 = grind (arith, nat_tests) in ap (λ (c : ℕ). a ∷ c ∷ []) e ∙ with_equals_is a g h
two_at a b g false true r i j k h =
    let e : a ≡ 60 = grind (arith, nat_tests) in
    ap (λ (c : ℕ). c ∷ b ∷ []) e
    ∙ second 60 b 45 sign.LessMinus (if b == 43 then Some sign.LessPlus else None) g refl (second 60 b 43 sign.LessPlus None g refl (λ n. absurd cc)) h
two_at a b g false false true i j k h =
    let e : b ≡ 62 = grind (arith, nat_tests) in
    ap (λ (c : ℕ). a ∷ c ∷ []) e
    ∙ pick a 45 sign.Arrow (if a == 61 then Some sign.EqualsGreater else None) g (62 ∷ []) refl (pick a 61 sign.EqualsGreater None g (62 ∷ []) refl (λ n. absurd cc)) h
two_at a b g false false false i j k h = absurd cc

pub sign_is : (x : List ℕ) (g : Sign) → sign_of x ≡ Some g → x ≡ sign_text g
sign_is [] g h = absurd cc
sign_is (a ∷ []) g h = one_is a g h
sign_is (a ∷ b ∷ []) g h = two_at a b g (b == 61) (a == 60) (b == 62) refl refl refl h
sign_is (a ∷ b ∷ c ∷ x) g h = absurd cc

pub sign_found_as : (x : List ℕ) (g : Sign) → x ≡ sign_text g → sign_of x ≡ Some g
sign_found_as x g h = ap sign_of h ∙ sign_read g

pub signs_differ : (s t : Sign) → sign_text s ≡ sign_text t → s ≡ t
signs_differ s t h = let e : Some s ≡ Some t = sym (sign_read s) ∙ ap sign_of h ∙ sign_read t in cc
