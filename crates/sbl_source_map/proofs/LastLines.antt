-- The last line of a text, one byte further.
use Rattle.std.proofs.Common.{◌≡◌, ℕ, ◌+◌, ◌<◌, ◌≤◌, Bool, true, false, cond, ◌||◌, List, [], ◌∷◌, ◌++◌, length, take, get_or, refl, ap, ◌∙◌, arith, length-take}
use Rattle.std.specs.List.{list_any, count_by}
use Rattle.std.proofs.lemmas.List.{take_more}
use Rattle.std.proofs.lemmas.List.Folds.{list_any-append}
use Rattle.std.proofs.lemmas.List.Sums.{sum_by_push, count_by-le-length}
use Rattle.sbl_source_map.specs.Positions.{is_line_feed, begins_character, last_line}

last_line-push : (bs : List ℕ) (b : ℕ) → last_line (bs ++ b ∷ []) ≡ cond (is_line_feed b) [] (last_line bs ++ b ∷ [])
last_line-push [] b = refl
last_line-push (c ∷ bs) b =
    ap (λ (x : Bool). cond x (last_line (bs ++ b ∷ [])) (cond (is_line_feed c) (bs ++ b ∷ []) (c ∷ bs ++ b ∷ []))) (list_any-append is_line_feed bs (b ∷ []))
    ∙ go (list_any is_line_feed bs) (is_line_feed b) (is_line_feed c) (last_line-push bs b) where
      go : (x y z : Bool) → last_line (bs ++ b ∷ []) ≡ cond y [] (last_line bs ++ b ∷ [])
          → cond (x || (y || false)) (last_line (bs ++ b ∷ [])) (cond z (bs ++ b ∷ []) (c ∷ bs ++ b ∷ [])) ≡ cond y [] (cond x (last_line bs) (cond z bs (c ∷ bs)) ++ b ∷ [])
      go true true z e = e
      go true false z e = e
      go false true z e = e
      go false false true e = refl
      go false false false e = refl

last_line_short : (bs : List ℕ) → length (last_line bs) ≤ length bs
last_line_short [] = omega arith
last_line_short (c ∷ bs) = go (list_any is_line_feed bs) (is_line_feed c) (last_line_short bs) where
  go : (x z : Bool) → length (last_line bs) ≤ length bs → length (cond x (last_line bs) (cond z bs (c ∷ bs))) ≤ length (c ∷ bs)
  go true z h = omega arith
  go false true h = omega arith
  go false false h = omega arith

-- the characters of the last line
abbrev count : List ℕ → ℕ
count bs = count_by begins_character (last_line bs)

count_after : (bs : List ℕ) (i d : ℕ) (y : Bool) → i < length bs → is_line_feed (get_or bs i d) ≡ y → count (take (i + 1) bs) ≡ count_by begins_character (cond y [] (last_line (take i bs) ++ get_or bs i d ∷ []))
count_after bs i d y h e =
    ap count (take_more bs i d h)
    ∙ ap (count_by begins_character) (last_line-push (take i bs) (get_or bs i d))
    ∙ ap (λ (b : Bool). count_by begins_character (cond b [] (last_line (take i bs) ++ get_or bs i d ∷ []))) e

count_push : (bs : List ℕ) (b : ℕ) (y : Bool) → begins_character b ≡ y → count_by begins_character (bs ++ b ∷ []) ≡ count_by begins_character bs + cond y 1 0
count_push bs b y e = sum_by_push (λ c. cond (begins_character c) 1 0) bs b ∙ ap (λ (x : Bool). count_by begins_character bs + cond x 1 0) e

pub at_line_feed : (bs : List ℕ) (i d : ℕ) → i < length bs → is_line_feed (get_or bs i d) ≡ true → count (take (i + 1) bs) ≡ 0
at_line_feed bs i d h e = count_after bs i d true h e

pub at_character : (bs : List ℕ) (i d : ℕ) → i < length bs → is_line_feed (get_or bs i d) ≡ false → begins_character (get_or bs i d) ≡ true → count (take (i + 1) bs) ≡ count (take i bs) + 1
at_character bs i d h e b = count_after bs i d false h e ∙ count_push (last_line (take i bs)) (get_or bs i d) true b

pub at_other : (bs : List ℕ) (i d : ℕ) → i < length bs → is_line_feed (get_or bs i d) ≡ false → begins_character (get_or bs i d) ≡ false → count (take (i + 1) bs) ≡ count (take i bs)
at_other bs i d h e b = count_after bs i d false h e ∙ count_push (last_line (take i bs)) (get_or bs i d) false b ∙ omega arith

pub few : (bs : List ℕ) (i : ℕ) → i < length bs → count (take i bs) < length bs
few bs i h = omega (arith, count_by-le-length begins_character (last_line (take i bs)), last_line_short (take i bs), length-take i bs)
