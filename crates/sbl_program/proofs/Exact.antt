-- The strings that fit are those that match, each longer than the next.
use Rattle.std.proofs.Common.{◌≡◌, ℕ, zero, suc, ◌<◌, ◌≤◌, Bool, true, false, List, [], ◌∷◌, ◌++◌, length, take, Option, Some, None, refl, sym, ap, ◌∙◌, arith}
use Rattle.std.specs.Prelude.{nat_eq, nat_lt, slice_get}
use Rattle.std.specs.List.{starts_with, position}
use Rattle.std.specs.Cmp.Lexicographic.{pointwise}
use Rattle.std.proofs.lemmas.Bool.{ltb-true, ltb-false}
use Rattle.std.proofs.lemmas.Option.{get_or_from_slice_get}
use Rattle.sbl_semantics.specs.Fitting.{below, first, fitting, length_at, onto}
use Rattle.sbl_program.specs.Laws.{AllDiffer, Matches, StandsIn}
use Rattle.sbl_program.proofs.Fits.{at_number, prefix_is, prefix_length, nowhere, rest_after, taken_prefix, taken_length}

-- ---- what fits matches

match_at : (strings : List (List ℕ)) (x : List ℕ) (l : ℕ) (p : Option ℕ) (before rest : List ℕ) (i : ℕ) → p ≡ position (pointwise nat_eq (take l x)) strings → l ≤ length x → onto p (below strings x l) ≡ before ++ (i ∷ rest) → ((b : List ℕ) → below strings x l ≡ b ++ (i ∷ rest) → Matches strings x i) → Matches strings x i
match_at strings x l None before rest i e h cut more = more before cut
match_at strings x l (Some k) [] rest i e h cut more =
    let is : k ≡ i = cc in
    (take l x, ap (slice_get strings) (sym is) ∙ at_number strings (take l x) k (sym e), taken_prefix x (take l x) l h refl)
match_at strings x l (Some k) (b ∷ bs) rest i e h cut more = more bs (let r : below strings x l ≡ bs ++ (i ∷ rest) = cc in r)

match_below : (strings : List (List ℕ)) (x : List ℕ) (b : ℕ) (before rest : List ℕ) (i : ℕ) → b ≤ suc (length x) → below strings x b ≡ before ++ (i ∷ rest) → Matches strings x i
match_below strings x zero [] rest i h cut = absurd (let no : ⊥ = cc in no)
match_below strings x zero (b ∷ bs) rest i h cut = absurd (let no : ⊥ = cc in no)
match_below strings x (suc l) before rest i h cut =
    match_at strings x l (position (pointwise nat_eq (take l x)) strings) before rest i refl (omega arith) cut (λ b c. match_below strings x l b rest i (omega arith) c)

pub fits_match : (strings : List (List ℕ)) (x : List ℕ) (i : ℕ) → StandsIn i (fitting strings x) → Matches strings x i
unfolding fitting
fits_match strings x i s = match_below strings x (suc (length x)) s.0 s.1 i (omega arith) s.2

-- ---- what matches fits

later : (p : Option ℕ) (is : List ℕ) (i : ℕ) → StandsIn i is → StandsIn i (onto p is)
later None is i s = s
later (Some k) is i s = (k ∷ s.0, s.1, ap (λ t. k ∷ t) s.2)

here : (strings : List (List ℕ)) (w : List ℕ) (i : ℕ) (p : Option ℕ) (is : List ℕ) → AllDiffer strings → slice_get strings i ≡ Some w → p ≡ position (pointwise nat_eq w) strings → StandsIn i (onto p is)
here strings w i None is differ at e = absurd (nowhere strings w i (sym e) at)
here strings w i (Some k) is differ at e =
    let same : k ≡ i = differ k i w (at_number strings w k (sym e)) at in
    ([], is, ap (λ n. n ∷ is) same)

found_at : (strings : List (List ℕ)) (x w : List ℕ) (i l : ℕ) (t : Bool) → nat_lt (length w) l ≡ t → AllDiffer strings → slice_get strings i ≡ Some w → starts_with nat_eq x w ≡ true → length w < suc l → (length w < l → StandsIn i (below strings x l)) → StandsIn i (below strings x (suc l))
found_at strings x w i l true t differ at prefix short more = later (position (pointwise nat_eq (take l x)) strings) (below strings x l) i (more (ltb-true (length w) l t))
found_at strings x w i l false t differ at prefix short more =
    let n : l ≤ length w = ltb-false (length w) l t in
    let same : length w ≡ l = omega (arith, n, short) in
    let text : w ≡ take l x = prefix_is x w prefix ∙ ap (λ k. take k x) same in
    here strings w i (position (pointwise nat_eq (take l x)) strings) (below strings x l) differ at (ap (λ v. position (pointwise nat_eq v) strings) (sym text))

found_below : (strings : List (List ℕ)) (x w : List ℕ) (i b : ℕ) → AllDiffer strings → slice_get strings i ≡ Some w → starts_with nat_eq x w ≡ true → length w < b → StandsIn i (below strings x b)
found_below strings x w i zero differ at prefix short = absurd (omega (arith, short))
found_below strings x w i (suc l) differ at prefix short = found_at strings x w i l (nat_lt (length w) l) refl differ at prefix short (λ h. found_below strings x w i l differ at prefix h)

pub match_fits : (strings : List (List ℕ)) (x : List ℕ) (i : ℕ) → AllDiffer strings → Matches strings x i → StandsIn i (fitting strings x)
unfolding fitting
match_fits strings x i differ m =
    let short : length m.0 ≤ length x = prefix_length x m.0 m.2 in
    found_below strings x m.0 i (suc (length x)) differ m.1 m.2 (omega (arith, short))

-- ---- lengths fall

short_at : (strings : List (List ℕ)) (x : List ℕ) (l j : ℕ) (p : Option ℕ) → p ≡ position (pointwise nat_eq (take l x)) strings → l ≤ length x → first (onto p (below strings x l)) ≡ Some j → (first (below strings x l) ≡ Some j → length_at strings j < l) → length_at strings j < suc l
short_at strings x l j None e h f more = let n : length_at strings j < l = more f in omega (arith, n)
short_at strings x l j (Some k) e h f more =
    let same : k ≡ j = cc in
    let at : slice_get strings j ≡ Some (take l x) = ap (slice_get strings) (sym same) ∙ at_number strings (take l x) k (sym e) in
    let n : length_at strings j ≡ length (take l x) = ap length (get_or_from_slice_get strings j (take l x) [] at) in
    omega (arith, n, taken_length l x h)

first_short : (strings : List (List ℕ)) (x : List ℕ) (b j : ℕ) → b ≤ suc (length x) → first (below strings x b) ≡ Some j → length_at strings j < b
first_short strings x zero j h f = absurd (let no : ⊥ = cc in no)
first_short strings x (suc l) j h f = short_at strings x l j (position (pointwise nat_eq (take l x)) strings) refl (omega arith) f (first_short strings x l j (omega arith))

pub fits_fall : (strings : List (List ℕ)) (x : List ℕ) (before rest : List ℕ) (i j : ℕ) → fitting strings x ≡ before ++ (i ∷ (j ∷ rest)) → length_at strings j < length_at strings i
fits_fall strings x before rest i j cut =
    let r = rest_after strings x before (j ∷ rest) i cut in
    let w = r.0 in
    let n : length_at strings i ≡ length w = ap length (get_or_from_slice_get strings i w [] r.1) in
    let f : first (below strings w (length w)) ≡ Some j = ap first (sym r.2) in
    let s : length_at strings j < length w = first_short strings w (length w) j (omega arith) f in
    omega (arith, n, s)
