-- Moves that are turned one after another.
use Rattle.std.proofs.Common.{◌≡◌, ◌∙◌, ◌+◌, ◌<◌, ◌≤◌, ℕ, zero, suc, List, [], ◌∷◌, length, slice_set, slice_index_or, arith, refl, ap}
use Rattle.sbl_rows.specs.declared.stem_class.StemPair.{StemPair}
use Rattle.sbl_rows.specs.Moves.{moves_back}
use Rattle.sbl_rows.specs.Views.{view_pairs}

abbrev pub move_back : StemPair → StemPair
move_back p = record { stem = p.member; member = p.stem }

-- the first n of them turned
abbrev pub turned_first : ℕ → List StemPair → List StemPair
turned_first zero ps = ps
turned_first (suc n) [] = []
turned_first (suc n) (p ∷ ps) = move_back p ∷ turned_first n ps

by_one : (ps : List StemPair) (n : ℕ) (d : StemPair) → n < length ps → slice_set (turned_first n ps) n (move_back (slice_index_or (turned_first n ps) n d)) ≡ turned_first (suc n) ps
by_one [] n d lt = absurd (omega (arith, lt))
by_one (p ∷ ps) zero d lt = refl
by_one (p ∷ ps) (suc n) d lt = ap (λ l. move_back p ∷ l) (by_one ps n d (omega arith))

pub one_more : (ps now : List StemPair) (n : ℕ) (d : StemPair) → n < length ps → now ≡ turned_first n ps → slice_set now n (move_back (slice_index_or now n d)) ≡ turned_first (n + 1) ps
one_more ps now n d lt is = ap (λ l. slice_set l n (move_back (slice_index_or l n d))) is ∙ by_one ps n d lt ∙ ap (λ k. turned_first k ps) (sym_one n)
  where
    sym_one : (k : ℕ) → suc k ≡ k + 1
    sym_one k = omega arith

pub all_turned : (ps : List StemPair) (n : ℕ) → length ps ≤ n → view_pairs (turned_first n ps) ≡ moves_back (view_pairs ps)
all_turned [] zero le = refl
all_turned [] (suc n) le = refl
all_turned (p ∷ ps) zero le = absurd (omega (arith, le))
all_turned (p ∷ ps) (suc n) le = ap (λ l. (p.member.now, p.stem.now) ∷ l) (all_turned ps n (omega arith))
