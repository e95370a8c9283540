-- The strings that fit.
use Rattle.std.proofs.Common.{◌≡◌, ℕ, zero, suc, ◌+◌, ◌<◌, ◌≤◌, Bool, true, false, List, [], ◌∷◌, ◌++◌, length, take, Option, Some, None, refl, sym, ap, ◌∙◌, arith, get_or}
use Rattle.std.specs.Prelude.{nat_eq, nat_lt, cond, slice_get}
use Rattle.std.specs.List.{starts_with, position, position_or_len}
use Rattle.std.specs.Cmp.Lexicographic.{pointwise}
use Rattle.std.proofs.lemmas.Bool.Decides.{Decides-eqb}
use Rattle.std.proofs.lemmas.Bool.{ltb-false}
use Rattle.std.proofs.lemmas.List.Sums.{fails_before_first}
use Rattle.std.proofs.lemmas.List.{length-take}
use Rattle.std.proofs.lemmas.List.Quantifiers.{position-Some}
use Rattle.std.proofs.lemmas.Option.{slice_get-get_or, slice_get_within, get_or_from_slice_get}
use Rattle.std.proofs.lemmas.Slice.Eq.{slice_eq-Decides}
use Rattle.sbl_semantics.specs.Fitting.{below, fitting, first, onto}
use Rattle.sbl_program.specs.Best.{IsBest}

-- a test of two strings
same_by_test : (a b : List ℕ) → pointwise nat_eq a b ≡ true → a ≡ b
same_by_test a b h = (slice_eq-Decides Decides-eqb a b (pointwise nat_eq a b) refl).0 h

test_of_same : (a b : List ℕ) → a ≡ b → pointwise nat_eq a b ≡ true
test_of_same a b h = (slice_eq-Decides Decides-eqb a b (pointwise nat_eq a b) refl).1 h

-- a prefix is what its length takes
pub prefix_is : (x w : List ℕ) → starts_with nat_eq x w ≡ true → w ≡ take (length w) x
prefix_is x w h = same_by_test w (take (length w) x) h

pub prefix_length : (x w : List ℕ) → starts_with nat_eq x w ≡ true → length w ≤ length x
prefix_length x w h = let e : length w ≡ length (take (length w) x) = ap length (prefix_is x w h) in omega (arith, e, length-take (length w) x)

pub taken_length : (l : ℕ) (x : List ℕ) → l ≤ length x → length (take l x) ≡ l
taken_length l x h = omega (arith, length-take l x)

-- what is taken is a prefix
pub taken_prefix : (x w : List ℕ) (l : ℕ) → l ≤ length x → w ≡ take l x → starts_with nat_eq x w ≡ true
taken_prefix x w l h e =
    let n : length w ≡ l = ap length e ∙ taken_length l x h in
    test_of_same w (take (length w) x) (e ∙ ap (λ k. take k x) (sym n))

-- a string is at its number, and at no smaller one
pub at_number : (strings : List (List ℕ)) (w : List ℕ) (i : ℕ) → position (pointwise nat_eq w) strings ≡ Some i → slice_get strings i ≡ Some w
at_number strings w i h =
    let p = position-Some (pointwise nat_eq w) strings i [] h in
    slice_get-get_or strings i [] p.0 ∙ ap Some (sym (same_by_test w (get_or strings i []) p.1))

true_false : (b : Bool) → b ≡ true → b ≡ false → ⊥
true_false b p q = let e : true ≡ false = sym p ∙ q in cc

no_smaller : (strings : List (List ℕ)) (w : List ℕ) (i j : ℕ) → position (pointwise nat_eq w) strings ≡ Some i → j < i → slice_get strings j ≡ Some w → ⊥
no_smaller strings w i j h l e =
    let p = position-Some (pointwise nat_eq w) strings i [] h in
    let q : get_or strings j [] ≡ w = get_or_from_slice_get strings j w [] e in
    true_false _ (test_of_same w (get_or strings j []) (sym q)) (p.2 j l)

not_there : (b : Bool) (p n : ℕ) → nat_lt p n ≡ b → cond b (Some p) None ≡ None → n ≤ p
not_there true p n t h = let e : Some p ≡ None = h in absurd (let no : ⊥ = cc in no)
not_there false p n t h = ltb-false p n t

pub nowhere : (strings : List (List ℕ)) (w : List ℕ) (j : ℕ) → position (pointwise nat_eq w) strings ≡ None → slice_get strings j ≡ Some w → ⊥
nowhere strings w j h e =
    let p = pointwise nat_eq w in
    let q : get_or strings j [] ≡ w = get_or_from_slice_get strings j w [] e in
    let n : length strings ≤ position_or_len p strings = not_there (nat_lt (position_or_len p strings) (length strings)) _ _ refl h in
    let k : j < length strings = slice_get_within strings j w e in
    true_false _ (test_of_same w (get_or strings j []) (sym q)) (fails_before_first p strings j [] (omega arith))

some_none : (i : ℕ) → Some i ≡ None → ⊥
some_none i e = cc

pub some_text : (v w : List ℕ) → Some v ≡ Some w → v ≡ w
some_text v w e = cc

-- one length of `below`
one_length : (strings : List (List ℕ)) (x : List ℕ) (l : ℕ) (p r : Option ℕ) → p ≡ position (pointwise nat_eq (take l x)) strings → l ≤ length x → IsBest strings x (suc l) r → (IsBest strings x l r → r ≡ first (below strings x l)) → r ≡ first (onto p (below strings x l))
one_length strings x l None None e h best more = more (λ j v s f. omega (arith, best j v s f))
one_length strings x l None (Some i) e h best more =
    let w = best.0 in
    let other : length w ≡ l → ⊥ = λ n. nowhere strings (take l x) i (sym e) (best.1 ∙ ap Some (prefix_is x w best.2 ∙ ap (λ k. take k x) n)) in
    let less : length w < l = omega (arith, best.3, other) in
    more (w, best.1, best.2, less, (λ j v s f g. best.4 j v s f (omega (arith, g))), (λ j v k s f g. best.5 j v k s f (omega (arith, g))))
one_length strings x l (Some k) None e h best more =
    let at : slice_get strings k ≡ Some (take l x) = at_number strings (take l x) k (sym e) in
    let prefix : starts_with nat_eq x (take l x) ≡ true = taken_prefix x (take l x) l h refl in
    let n : length (take l x) ≡ l = taken_length l x h in
    absurd (omega (arith, best k (take l x) at prefix, n))
one_length strings x l (Some k) (Some i) e h best more =
    let at : slice_get strings k ≡ Some (take l x) = at_number strings (take l x) k (sym e) in
    let prefix : starts_with nat_eq x (take l x) ≡ true = taken_prefix x (take l x) l h refl in
    let n : length (take l x) ≡ l = taken_length l x h in
    let w = best.0 in
    let small : length (take l x) < suc l = omega (arith, n) in
    let long : length (take l x) ≤ length w = best.4 k (take l x) at prefix small in
    let same : length w ≡ l = omega (arith, long, n, best.3) in
    let text : w ≡ take l x = prefix_is x w best.2 ∙ ap (λ k. take k x) same in
    let not_after : k < i → ⊥ = λ g. let s : length (take l x) < length w = best.5 k (take l x) g at prefix small in omega (arith, s, n, same) in
    let not_before : i < k → ⊥ = λ g. no_smaller strings (take l x) k i (sym e) g (best.1 ∙ ap Some text) in
    let is : i ≡ k = omega (arith, not_after, not_before) in
    ap Some is

pub best_is_first : (strings : List (List ℕ)) (x : List ℕ) (b : ℕ) (r : Option ℕ) → b ≤ suc (length x) → IsBest strings x b r → r ≡ first (below strings x b)
best_is_first strings x zero None h best = refl
best_is_first strings x zero (Some i) h best = absurd (omega (arith, best.3))
best_is_first strings x (suc l) r h best =
    one_length strings x l (position (pointwise nat_eq (take l x)) strings) r refl (omega arith) best (λ b. best_is_first strings x l r (omega arith) b)

-- up to a length that the text takes, the strings that fit are those that fit the text so far
pub take_take : (l m : ℕ) (x : List ℕ) → l ≤ m → take l (take m x) ≡ take l x
take_take zero m x h = refl
take_take (suc l) zero x h = absurd (omega arith)
take_take (suc l) (suc m) [] h = refl
take_take (suc l) (suc m) (a ∷ x) h = ap (λ t. a ∷ t) (take_take l m x (omega arith))

below_taken : (strings : List (List ℕ)) (x : List ℕ) (m l : ℕ) → l ≤ suc m → below strings x l ≡ below strings (take m x) l
below_taken strings x m zero h = refl
below_taken strings x m (suc l) h =
    let more : below strings x l ≡ below strings (take m x) l = below_taken strings x m l (omega arith) in
    let same : take l (take m x) ≡ take l x = take_take l m x (omega arith) in
    ap (λ t. onto (position (pointwise nat_eq t) strings) (below strings x l)) (sym same) ∙ ap (onto (position (pointwise nat_eq (take l (take m x))) strings)) more

cut_at : (strings : List (List ℕ)) (x : List ℕ) (l : ℕ) (p : Option ℕ) (before rest : List ℕ) (i : ℕ) → p ≡ position (pointwise nat_eq (take l x)) strings → l ≤ length x → onto p (below strings x l) ≡ before ++ (i ∷ rest) → ((b : List ℕ) → below strings x l ≡ b ++ (i ∷ rest) → (w : List ℕ) × (slice_get strings i ≡ Some w) × (rest ≡ below strings w (length w))) → (w : List ℕ) × (slice_get strings i ≡ Some w) × (rest ≡ below strings w (length w))
cut_at strings x l None before rest i e h cut more = more before cut
cut_at strings x l (Some k) [] rest i e h cut more =
    let is : k ≡ i = cc in
    let r : below strings x l ≡ rest = cc in
    let w = take l x in
    let n : length w ≡ l = taken_length l x h in
    (w, ap (slice_get strings) (sym is) ∙ at_number strings w k (sym e), sym r ∙ below_taken strings x l l (omega arith) ∙ ap (below strings w) (sym n))
cut_at strings x l (Some k) (b ∷ bs) rest i e h cut more = more bs (let r : below strings x l ≡ bs ++ (i ∷ rest) = cc in r)

cut_below : (strings : List (List ℕ)) (x : List ℕ) (b : ℕ) (before rest : List ℕ) (i : ℕ) → b ≤ suc (length x) → below strings x b ≡ before ++ (i ∷ rest) → (w : List ℕ) × (slice_get strings i ≡ Some w) × (rest ≡ below strings w (length w))
cut_below strings x zero [] rest i h cut = absurd (let no : ⊥ = cc in no)
cut_below strings x zero (b ∷ bs) rest i h cut = absurd (let no : ⊥ = cc in no)
cut_below strings x (suc l) before rest i h cut =
    cut_at strings x l (position (pointwise nat_eq (take l x)) strings) before rest i refl (omega arith) cut (λ b c. cut_below strings x l b rest i (omega arith) c)

pub rest_after : (strings : List (List ℕ)) (x : List ℕ) (before rest : List ℕ) (i : ℕ) → fitting strings x ≡ before ++ (i ∷ rest) → (w : List ℕ) × (slice_get strings i ≡ Some w) × (rest ≡ below strings w (length w))
unfolding fitting
rest_after strings x before rest i cut = cut_below strings x (suc (length x)) before rest i (omega arith) cut

-- the best of all the prefixes is the first that fits
pub best_fits : (strings : List (List ℕ)) (x : List ℕ) (b : ℕ) (r : Option ℕ) (n : ℕ) → length x ≡ n → b ≡ n + 1 → IsBest strings x b r → r ≡ first (fitting strings x)
unfolding fitting
best_fits strings x b r n e d best =
    let s : b ≡ suc (length x) = omega (arith, e, d) in
    best_is_first strings x b r (omega (arith, s)) best ∙ ap (λ k. first (below strings x k)) s

-- what follows a string among those that fit, by the best of its own prefixes
pub best_after : (strings : List (List ℕ)) (x : List ℕ) (before rest : List ℕ) (i : ℕ) (w : List ℕ) (n : ℕ) (r : Option ℕ) → fitting strings x ≡ before ++ (i ∷ rest) → slice_get strings i ≡ Some w → n ≡ length w → IsBest strings w n r → r ≡ first rest
best_after strings x before rest i w n r cut at len best =
    let p = rest_after strings x before rest i cut in
    let same : p.0 ≡ w = some_text p.0 w (sym p.1 ∙ at) in
    best_is_first strings w n r (omega (arith, len)) best ∙ ap (λ k. first (below strings w k)) len ∙ ap (λ k. first (below strings k (length k))) (sym same) ∙ ap first (sym p.2)

-- a string that stands nowhere never fits
pub none_after : (strings : List (List ℕ)) (x : List ℕ) (before rest : List ℕ) (i : ℕ) → fitting strings x ≡ before ++ (i ∷ rest) → slice_get strings i ≡ None → ⊥
none_after strings x before rest i cut none =
    let p = rest_after strings x before rest i cut in
    let e : Some p.0 ≡ None = sym p.1 ∙ none in cc
