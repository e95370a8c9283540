-- What is cut is a piece, and no longer piece begins there.
use Rattle.std.proofs.Common.{◌≡◌, ℕ, ◌≤◌, Bool, true, false, List, [], ◌∷◌, ◌++◌, length, drop, Option, Some, None, refl, sym, ap, ◌∙◌, arith}
use Rattle.std.specs.Prelude.{not, ◌&&◌, ◌||◌, ◌==◌, if◌then◌else◌, option_map, IfSome, MatchOption}
use Rattle.std.specs.List.{list_all}
use Rattle.std.proofs.lemmas.Bool.Decides.{nat_tests}
use Rattle.sbl_token.specs.declared.signs.Sign.{Sign}
use Rattle.sbl_text.specs.declared.escapes.Inserts.{Inserts}
use Rattle.sbl_text.specs.Skip.{past}
use Rattle.sbl_token.specs.SignCuts.{sign_of, sign_prefix, or_one, one, two}
use Rattle.sbl_text.specs.Escapes.{opens, closes}
use Rattle.sbl_text.specs.Classes.{slash, begins_with}
use Rattle.sbl_text.specs.Pieces.{is_inner}
use Rattle.sbl_text.specs.Scan.{past_literal, past_block, has_end}

pub and_left : (a b : Bool) → a && b ≡ true → a ≡ true
and_left true b h = refl
and_left false b h = h

pub and_right : (a b : Bool) → a && b ≡ true → b ≡ true
and_right true b h = h
and_right false b h = cc

-- ---- runs

abbrev Run : (ℕ → Bool) → List ℕ → List ℕ → Type 0
Run p text rest = (x : List ℕ) × (text ≡ x ++ rest) × (list_all p x ≡ true)

run_at : (p : ℕ → Bool) (c : ℕ) (cs : List ℕ) (b : Bool) → p c ≡ b → Run p cs (past p cs) → Run p (c ∷ cs) (if b then past p cs else c ∷ cs)
run_at p c cs true h r = (c ∷ r.0, ap (λ (t : List ℕ). c ∷ t) r.1, rw h r.2)
run_at p c cs false h r = ([], refl, refl)

pub run_of : (p : ℕ → Bool) (cs : List ℕ) → Run p cs (past p cs)
run_of p [] = ([], refl, refl)
run_of p (c ∷ cs) = run_at p c cs (p c) refl (run_of p cs)

shorter_at : (p : ℕ → Bool) (c : ℕ) (cs : List ℕ) (b : Bool) → length (past p cs) ≤ length cs → length (if b then past p cs else c ∷ cs) ≤ length (c ∷ cs)
shorter_at p c cs true h = omega arith
shorter_at p c cs false h = omega arith

pub past_shorter : (p : ℕ → Bool) (cs : List ℕ) → length (past p cs) ≤ length cs
past_shorter p [] = omega arith
past_shorter p (c ∷ cs) = shorter_at p c cs (p c) (past_shorter p cs)

-- no longer run begins there
pub run_longest : (p : ℕ → Bool) (y more : List ℕ) → list_all p y ≡ true → length (past p (y ++ more)) ≤ length more
run_longest p [] more h = past_shorter p more
run_longest p (c ∷ y) more h = rw (and_left (p c) (list_all p y) h) (run_longest p y more (and_right (p c) (list_all p y) h))

-- ---- signs

abbrev Found : List ℕ → Option (Sign × List ℕ) → Type 0
Found text o = IfSome o (λ p. (x : List ℕ) × (text ≡ x ++ p.1) × (sign_of x ≡ Some p.0))

found_two : (a b : ℕ) (cs : List ℕ) (t u : Option Sign) → two a b ≡ t → one a ≡ u → Found (a ∷ b ∷ cs) (or_one t u cs (b ∷ cs))
found_two a b cs (Some t) u h i = (a ∷ b ∷ [], refl, h)
found_two a b cs None (Some u) h i = (a ∷ [], refl, i)
found_two a b cs None None h i = tt

found_one : (a : ℕ) (u : Option Sign) → one a ≡ u → Found (a ∷ []) (option_map (λ s. (s, [])) u)
found_one a (Some u) i = (a ∷ [], refl, i)
found_one a None i = tt

pub sign_found : (text : List ℕ) → Found text (sign_prefix text)
unfolding sign_prefix
sign_found [] = tt
sign_found (a ∷ []) = found_one a (one a) refl
sign_found (a ∷ b ∷ cs) = found_two a b cs (two a b) (one a) refl refl

abbrev Leaves : ℕ → Option (Sign × List ℕ) → Type 0
Leaves n o = MatchOption o ⊥ (λ p. length p.1 ≤ n)

leaves_one : (b : ℕ) (cs : List ℕ) (s : Sign) (t u : Option Sign) → u ≡ Some s → Leaves (length (b ∷ cs)) (or_one t u cs (b ∷ cs))
leaves_one b cs s (Some t) u h = omega arith
leaves_one b cs s None u h = rw h (omega arith)

-- no longer sign begins there
pub sign_longest : (y more : List ℕ) (s : Sign) → sign_of y ≡ Some s → Leaves (length more) (sign_prefix (y ++ more))
unfolding sign_prefix
sign_longest [] more s h = absurd (cc)
sign_longest (a ∷ []) [] s h = rw h (omega arith)
sign_longest (a ∷ []) (b ∷ cs) s h = leaves_one b cs s (two a b) (one a) h
sign_longest (a ∷ b ∷ []) more s h = rw h (omega arith)
sign_longest (a ∷ b ∷ c ∷ cs) more s h = absurd (cc)

-- ---- literals

abbrev Inner : Option Inserts → Bool → List ℕ → List ℕ → Type 0
Inner e inside text rest = (inner : List ℕ) × (text ≡ inner ++ 39 ∷ rest) × (is_inner e inside inner ≡ true)

pub same_number : (c n : ℕ) → (c == n) ≡ true → c ≡ n
same_number c n h = grind (arith, nat_tests)

parts_at : (e : Option Inserts) (c : ℕ) (cs rest : List ℕ) (q n : Bool) → (c == 39) ≡ q → (c == 10) ≡ n
    → (past_literal e (opens e c) cs ≡ Some rest → Inner e (opens e c) cs rest)
    → (if q then Some cs else (if n then None else past_literal e (opens e c) cs)) ≡ Some rest → Inner e false (c ∷ cs) rest
parts_at e c cs rest true n i j more h = let s = same_number c 39 i in ([], cc, refl)
parts_at e c cs rest false true i j more h = absurd (cc)
parts_at e c cs rest false false i j more h = let r = more h in (c ∷ r.0, ap (λ (t : List ℕ). c ∷ t) r.1, rw (i, j) r.2)

pub literal_parts : (e : Option Inserts) (inside : Bool) (text rest : List ℕ) → past_literal e inside text ≡ Some rest → Inner e inside text rest
literal_parts e inside [] rest h = absurd (cc)
literal_parts e true (c ∷ cs) rest h = let r = literal_parts e (not (closes e c)) cs rest h in (c ∷ r.0, ap (λ (t : List ℕ). c ∷ t) r.1, r.2)
literal_parts e false (c ∷ cs) rest h = parts_at e c cs rest (c == 39) (c == 10) refl refl (literal_parts e (opens e c) cs rest) h

ends_at : (e : Option Inserts) (c : ℕ) (cs more : List ℕ) (q n : Bool) → (is_inner e (opens e c) cs ≡ true → past_literal e (opens e c) (cs ++ 39 ∷ more) ≡ Some more)
    → (if q || n then false else is_inner e (opens e c) cs) ≡ true
    → (if q then Some (cs ++ 39 ∷ more) else (if n then None else past_literal e (opens e c) (cs ++ 39 ∷ more))) ≡ Some more
ends_at e c cs more true n on h = absurd (cc)
ends_at e c cs more false true on h = absurd (cc)
ends_at e c cs more false false on h = on h

-- a literal ends in one place
pub literal_ends : (e : Option Inserts) (inside : Bool) (inner more : List ℕ) → is_inner e inside inner ≡ true → past_literal e inside (inner ++ 39 ∷ more) ≡ Some more
literal_ends e true [] more h = absurd (cc)
literal_ends e false [] more h = refl
literal_ends e true (c ∷ cs) more h = literal_ends e (not (closes e c)) cs more h
literal_ends e false (c ∷ cs) more h = ends_at e c cs more (c == 39) (c == 10) (literal_ends e (opens e c) cs more) h

-- ---- comments

abbrev Block : List ℕ → List ℕ → Type 0
Block text rest = (x : List ℕ) × (text ≡ x ++ 42 ∷ 47 ∷ rest) × (has_end x ≡ false)

slash_first : (cs : List ℕ) → begins_with slash cs ≡ true → cs ≡ 47 ∷ drop 1 cs
slash_first [] h = absurd (cc)
slash_first (c ∷ cs) h = let s = same_number c 47 h in cc

slash_same : (x t : List ℕ) → begins_with slash (x ++ 42 ∷ t) ≡ begins_with slash x
slash_same [] t = refl
slash_same (c ∷ x) t = refl

pub and_false : (b : Bool) → b && false ≡ false
and_false true = refl
and_false false = refl

or_more : (a b : Bool) → b ≡ true → (a || b) ≡ true
or_more true b h = refl
or_more false b h = h

neither : (a b : Bool) → a ≡ false → b ≡ false → (a || b) ≡ false
neither true b h k = h
neither false b h k = k

contains_end : (a b : List ℕ) → has_end (a ++ 42 ∷ 47 ∷ b) ≡ true
contains_end [] b = refl
contains_end (c ∷ a) b = or_more (c == 42 && begins_with slash (a ++ 42 ∷ 47 ∷ b)) (has_end (a ++ 42 ∷ 47 ∷ b)) (contains_end a b)

-- no end of a comment is in the text
pub no_end : (x : List ℕ) → has_end x ≡ false → (a b : List ℕ) → x ≡ a ++ 42 ∷ 47 ∷ b → ⊥
no_end x h a b e = let both : true ≡ false = sym (contains_end a b) ∙ ap has_end (sym e) ∙ h in cc

no_end_here : (c : ℕ) (x : List ℕ) → ((a b : List ℕ) → c ∷ x ≡ a ++ 42 ∷ 47 ∷ b → ⊥) → (b : Bool) → (c == 42 && begins_with slash x) ≡ b → b ≡ false
no_end_here c x h true i =
    absurd (h [] (drop 1 x) (ap (λ (n : ℕ). n ∷ x) (same_number c 42 (and_left (c == 42) (begins_with slash x) i)) ∙ ap (λ (t : List ℕ). 42 ∷ t) (slash_first x (and_right (c == 42) (begins_with slash x) i))))
no_end_here c x h false i = refl

pub has_no_end : (x : List ℕ) → ((a b : List ℕ) → x ≡ a ++ 42 ∷ 47 ∷ b → ⊥) → has_end x ≡ false
has_no_end [] h = refl
has_no_end (c ∷ x) h =
    neither (c == 42 && begins_with slash x) (has_end x) (no_end_here c x h (c == 42 && begins_with slash x) refl)
    (has_no_end x (λ a b e. h (c ∷ a) b (ap (λ (t : List ℕ). c ∷ t) e)))

block_at : (c : ℕ) (cs rest : List ℕ) (b : Bool) → (c == 42 && begins_with slash cs) ≡ b → (past_block cs ≡ Some rest → Block cs rest)
    → (if b then Some (drop 1 cs) else past_block cs) ≡ Some rest → Block (c ∷ cs) rest
block_at c cs rest true i more h =
    let s = same_number c 42 (and_left (c == 42) (begins_with slash cs) i) in let t = slash_first cs (and_right (c == 42) (begins_with slash cs) i) in ([], cc, refl)
block_at c cs rest false i more h =
    let r = more h in
    let k : begins_with slash cs ≡ begins_with slash r.0 = ap (begins_with slash) r.1 ∙ slash_same r.0 (47 ∷ rest) in
    (c ∷ r.0, ap (λ (t : List ℕ). c ∷ t) r.1, rw (sym (ap (λ (b : Bool). c == 42 && b) k) ∙ i) r.2)

pub block_parts : (text rest : List ℕ) → past_block text ≡ Some rest → Block text rest
block_parts [] rest h = absurd (cc)
block_parts (c ∷ cs) rest h = block_at c cs rest (c == 42 && begins_with slash cs) refl (block_parts cs rest) h

pub or_left : (a b : Bool) → a || b ≡ false → a ≡ false
or_left true b h = absurd (cc)
or_left false b h = refl

pub or_right : (a b : Bool) → a || b ≡ false → b ≡ false
or_right true b h = absurd (cc)
or_right false b h = h

ends_block : (x more : List ℕ) (b : Bool) → b ≡ false → past_block (x ++ 42 ∷ 47 ∷ more) ≡ Some more
    → (if b then Some (drop 1 (x ++ 42 ∷ 47 ∷ more)) else past_block (x ++ 42 ∷ 47 ∷ more)) ≡ Some more
ends_block x more true h k = absurd (cc)
ends_block x more false h k = k

pub block_ends : (x more : List ℕ) → has_end x ≡ false → past_block (x ++ 42 ∷ 47 ∷ more) ≡ Some more
block_ends [] more h = refl
block_ends (c ∷ x) more h =
    ends_block x more (c == 42 && begins_with slash (x ++ 42 ∷ 47 ∷ more))
    (ap (λ (b : Bool). c == 42 && b) (slash_same x (47 ∷ more)) ∙ or_left (c == 42 && begins_with slash x) (has_end x) h)
    (block_ends x more (or_right (c == 42 && begins_with slash x) (has_end x) h))
