-- `goto` and `gopast` with a grouping that is touched: the number of characters that are passed over decides their end.
use Rattle.std.proofs.Common.{◌≡◌, ℕ, zero, suc, ◌+◌, ◌-◌, ◌<◌, ◌≤◌, Bool, true, false, not, List, [], ◌∷◌, ◌++◌, length, map, reverse, take, drop, get_or, Some, None, refl, sym, ap, ◌∙◌, arith}
use Rattle.std.specs.Prelude.{nat_le, nat_lt, if◌then◌else◌, slice_get}
use Rattle.std.specs.List.{position, position_or_len}
use Rattle.std.specs.Option.{unwrap_or}
use Rattle.std.proofs.lemmas.Bool.{le-leb, leb-true, leb-false, ltb-false}
use Rattle.std.proofs.lemmas.List.{take_more, reverse-append, length-take-le, length-drop, length-reverse}
use Rattle.std.proofs.lemmas.List.Sums.{prefix_len-le-length}
use Rattle.sbl_program.specs.Terms.{class_at, no_character}
use Rattle.sbl_ast.specs.declared.mode.Mode.{Mode}
use Rattle.sbl_ast.specs.declared.mode.Mode.TheVariants.{Forward, Backward}
use Rattle.sbl_semantics.specs.declared.fault.RunFault.TheVariants.{Steps, Cursor}
use Rattle.sbl_semantics.specs.declared.touch.Touch.TheVariants.{Tested}
use Rattle.sbl_program.specs.Actions.{test_grouping}
use Rattle.sbl_run_state.specs.Seeking.{count_before, seek_ending}
use Rattle.sbl_semantics.specs.Moves.{next, one_of, touch_grouping}
use Rattle.sbl_semantics.specs.inside.MoveParts.{next_is}
use Rattle.sbl_semantics.specs.Fitting.{read_as}
use Rattle.sbl_semantics.specs.Control.{pay_first, seeks}
use Rattle.sbl_semantics.specs.inside.ControlParts.{end_search}
use Rattle.sbl_semantics.specs.State.{State, Ending, Doing, Signals, Stops, after, then_on, pay, ahead, move_cursor, at_place, room, saved_cursor, put_back}
use Rattle.sbl_semantics.specs.Touches.{with_touch}

-- ---- comparisons

less_if : (a b : ℕ) (t : Bool) → nat_lt a b ≡ t → b ≤ a → t ≡ false
less_if a b true e l = let k : suc a ≤ b = leb-true (suc a) b e in absurd (omega arith)
less_if a b false e l = refl

not_less : (a b : ℕ) → b ≤ a → nat_lt a b ≡ false
not_less a b l = less_if a b (nat_lt a b) refl l

at_most_if : (a b : ℕ) (t : Bool) → nat_le a b ≡ t → b < a → t ≡ false
at_most_if a b true e l = let k : a ≤ b = leb-true a b e in absurd (omega arith)
at_most_if a b false e l = refl

not_at_most : (a b : ℕ) → b < a → nat_le a b ≡ false
not_at_most a b l = at_most_if a b (nat_le a b) refl l

le_both_if : (a b : ℕ) (t : Bool) → nat_le a b ≡ t → nat_le (suc a) (suc b) ≡ t
le_both_if a b true e = let l : a ≤ b = leb-true a b e in le-leb (suc a) (suc b) (omega arith)
le_both_if a b false e = let l : b < a = leb-false a b e in not_at_most (suc a) (suc b) (omega arith)

le_both : (a b : ℕ) → nat_le (suc a) (suc b) ≡ nat_le a b
le_both a b = le_both_if a b (nat_le a b) refl

-- ---- the text ahead

tail_of : {A : Type 0} (n : ℕ) (ys : List A) (x : A) (xs : List A) → take n ys ≡ x ∷ xs → take (n - 1) (drop 1 ys) ≡ xs
tail_of zero ys x xs e = let no : ⊥ = cc in absurd no
tail_of (suc n) [] x xs e = let no : ⊥ = cc in absurd no
tail_of (suc n) (y ∷ ys) x xs e =
    let same : take n ys ≡ xs = cc in
    let k : suc n - 1 ≡ n = omega arith in
    ap (λ k. take k ys) k ∙ same

drop_one : {A : Type 0} (n : ℕ) (xs : List A) → drop 1 (drop n xs) ≡ drop (suc n) xs
drop_one zero xs = refl
drop_one (suc n) [] = refl
drop_one (suc n) (x ∷ xs) = drop_one n xs

-- the same read from the end
tail_back : {A : Type 0} (n : ℕ) (ys : List A) (x : A) (xs : List A) → n ≤ length ys → reverse (take n ys) ≡ x ∷ xs → reverse (take (n - 1) ys) ≡ xs
tail_back zero ys x xs l e = let no : ⊥ = cc in absurd no
tail_back (suc n) ys x xs l e =
    let y = get_or ys n x in
    let k : suc n ≡ n + 1 = omega arith in
    let j : suc n - 1 ≡ n = omega arith in
    let p : reverse (take (suc n) ys) ≡ y ∷ reverse (take n ys) = ap (λ k. reverse (take k ys)) k ∙ ap reverse (take_more ys n x (omega arith)) ∙ reverse-append (take n ys) (y ∷ []) in
    let same : reverse (take n ys) ≡ xs = cc in
    ap (λ k. reverse (take k ys)) j ∙ same

-- what is ahead after the first character
ahead_after : (m : Mode) (s : State) (x : ℕ) (xs : List ℕ) → s.cursor ≤ length s.text → ahead m s ≡ x ∷ xs → ahead m (move_cursor m 1 s) ≡ xs
ahead_after Forward s x xs l e =
    let n = length s.text - s.beyond in
    let k : n - (s.cursor + 1) ≡ n - s.cursor - 1 = omega arith in
    let j : s.cursor + 1 ≡ suc s.cursor = omega arith in
    ap (λ i. take (n - (s.cursor + 1)) (drop i s.text)) j
    ∙ ap (λ ys. take (n - (s.cursor + 1)) ys) (sym (drop_one s.cursor s.text))
    ∙ ap (λ k. take k (drop 1 (drop s.cursor s.text))) k
    ∙ tail_of (n - s.cursor) (drop s.cursor s.text) x xs e
ahead_after Backward s x xs l e =
    let k : s.cursor - 1 - s.left ≡ s.cursor - s.left - 1 = omega arith in
    let d = length-drop s.left s.text in
    ap (λ k. reverse (take k (drop s.left s.text))) k
    ∙ tail_back (s.cursor - s.left) (drop s.left s.text) x xs (omega (arith, d, l)) e

pub room_is : (m : Mode) (s : State) → s.cursor ≤ length s.text → room m s ≡ length (ahead m s)
room_is Forward s l =
    let d = length-drop s.cursor s.text in
    sym (length-take-le (length s.text - s.beyond - s.cursor) (drop s.cursor s.text) (omega (arith, d)))
room_is Backward s l =
    let d = length-drop s.left s.text in
    sym (length-reverse (take (s.cursor - s.left) (drop s.left s.text)) ∙ length-take-le (s.cursor - s.left) (drop s.left s.text) (omega (arith, d, l)))

ahead_paid : (m : Mode) (s : State) (k : ℕ) → ahead m (record s { steps = k }) ≡ ahead m s
ahead_paid Forward s k = refl
ahead_paid Backward s k = refl

room_paid : (m : Mode) (s : State) (k : ℕ) → room m (record s { steps = k }) ≡ room m s
room_paid Forward s k = refl
room_paid Backward s k = refl

-- ---- the cursor

at_cursor : (s : State) (z k : ℕ) → s.cursor ≤ length s.text → at_place s.cursor (record s { cursor = z; steps = k }) ≡ Signals true (record s { steps = k })
at_cursor s z k l =
    let e : nat_le s.cursor (length s.text) ≡ true = le-leb s.cursor (length s.text) l in
    ap (λ b. if b then Signals true (record s { steps = k }) else Stops Cursor (record s { cursor = z; steps = k })) e

-- the cursor put back to where it was before a test
put_there : (m : Mode) (s : State) (z k : ℕ) → s.cursor ≤ length s.text → put_back m (saved_cursor s) (record s { cursor = z; steps = k }) ≡ Signals true (record s { steps = k })
put_there Forward s z k l = at_cursor s z k l
put_there Backward s z k l =
    let n = length s.text in
    let t = record s { cursor = z; steps = k } in
    let e : nat_lt (n + s.beyond + s.cursor) (s.beyond + n) ≡ false = not_less (n + s.beyond + s.cursor) (s.beyond + n) (omega arith) in
    let d : n + s.beyond + s.cursor - (s.beyond + n) ≡ s.cursor = omega arith in
    ap (λ b. if b then Stops Cursor t else at_place (n + s.beyond + s.cursor - (s.beyond + n)) t) e
    ∙ ap (λ k. at_place k t) d
    ∙ at_cursor s z k l

put_before : (m : Mode) (s : State) (k : ℕ) → s.cursor ≤ length s.text → put_back m (saved_cursor s) (move_cursor m 1 (record s { steps = k })) ≡ Signals true (record s { steps = k })
put_before Forward s k l = put_there Forward s (s.cursor + 1) k l
put_before Backward s k l = put_there Backward s (s.cursor - 1) k l

not_moved : (m : Mode) (s : State) (k : ℕ) → record s { steps = k } ≡ record (move_cursor m 0 s) { steps = k }
not_moved Forward s k = let e : s.cursor ≡ s.cursor + 0 = omega arith in ap (λ z. record s { cursor = z; steps = k }) e
not_moved Backward s k = let e : s.cursor ≡ s.cursor - 0 = omega arith in ap (λ z. record s { cursor = z; steps = k }) e

moved_once : (m : Mode) (s : State) (k : ℕ) → move_cursor m 1 (record s { steps = k }) ≡ record (move_cursor m 1 s) { steps = k }
moved_once Forward s k = refl
moved_once Backward s k = refl

moved_on : (m : Mode) (n : ℕ) (s : State) (j k : ℕ) → record (move_cursor m n (move_cursor m 1 (record s { steps = j }))) { steps = k } ≡ record (move_cursor m (suc n) s) { steps = k }
moved_on Forward n s j k = let e : s.cursor + 1 + n ≡ s.cursor + suc n = omega arith in ap (λ z. record s { cursor = z; steps = k }) e
moved_on Backward n s j k = let e : s.cursor - 1 - n ≡ s.cursor - suc n = omega arith in ap (λ z. record s { cursor = z; steps = k }) e

inside : (m : Mode) (s : State) (k : ℕ) (x : ℕ) (xs : List ℕ) → s.cursor ≤ length s.text → ahead m s ≡ x ∷ xs → (move_cursor m 1 (record s { steps = k })).cursor ≤ length (move_cursor m 1 (record s { steps = k })).text
inside Forward s k x xs l e =
    let r : length s.text - s.beyond - s.cursor ≡ suc (length xs) = room_is Forward s l ∙ ap length e in
    omega (arith, r)
inside Backward s k x xs l e = omega (arith, l)

still_touched : (m : Mode) (s : State) (k g : ℕ) → with_touch (Tested g) s.touched ≡ s.touched → with_touch (Tested g) (move_cursor m 1 (record s { steps = k })).touched ≡ (move_cursor m 1 (record s { steps = k })).touched
still_touched Forward s k g t = t
still_touched Backward s k g t = t

steps_left : (m : Mode) (s : State) (k : ℕ) → (move_cursor m 1 (record s { steps = k })).steps ≡ k
steps_left Forward s k = refl
steps_left Backward s k = refl

-- ---- how it ends

pub seek_ending_short : (past : Bool) (m : Mode) (steps before room : ℕ) (s : State) → steps ≤ before → seek_ending past m steps before room s ≡ Stops Steps (record (move_cursor m steps s) { steps = 0 })
seek_ending_short past m steps before room s l =
    ap (λ b. if b then Stops Steps (record (move_cursor m steps s) { steps = 0 })
    else if nat_lt before room then Signals true (record (move_cursor m (if past then suc before else before) s) { steps = steps - suc before })
    else Signals false (record (move_cursor m before s) { steps = steps - suc before })) (le-leb steps before l)

seek_ending_long : (past : Bool) (m : Mode) (steps before room : ℕ) (s : State) (b : Bool) → before < steps → nat_lt before room ≡ b → seek_ending past m steps before room s ≡ (if b then Signals true (record (move_cursor m (if past then suc before else before) s) { steps = steps - suc before }) else Signals false (record (move_cursor m before s) { steps = steps - suc before }))
seek_ending_long past m steps before room s b l e =
    let t = Signals true (record (move_cursor m (if past then suc before else before) s) { steps = steps - suc before }) in
    let f = Signals false (record (move_cursor m before s) { steps = steps - suc before }) in
    ap (λ b. if b then Stops Steps (record (move_cursor m steps s) { steps = 0 }) else if nat_lt before room then t else f) (not_at_most steps before l)
    ∙ ap (λ b. if b then t else f) e

pub seek_ending_none : (past : Bool) (m : Mode) (steps before room : ℕ) (s : State) → before < steps → room ≤ before → seek_ending past m steps before room s ≡ Signals false (record (move_cursor m before s) { steps = steps - suc before })
seek_ending_none past m steps before room s l h = seek_ending_long past m steps before room s false l (not_less before room h)

pub seek_ending_met : (past : Bool) (m : Mode) (steps before room : ℕ) (s : State) → before < steps → before < room → seek_ending past m steps before room s ≡ Signals true (record (move_cursor m (if past then suc before else before) s) { steps = steps - suc before })
seek_ending_met past m steps before room s l h = seek_ending_long past m steps before room s true l (le-leb (suc before) room h)

-- ---- one test

test_is : (wanted : Bool) (class : ℕ → Bool) (g : ℕ) (m : Mode) (s : State) (k : ℕ) (xs : List ℕ) → s.steps ≡ suc k → with_touch (Tested g) s.touched ≡ s.touched → ahead m s ≡ xs → pay_first (test_grouping wanted class g) m s ≡ (if next_is wanted class (slice_get xs 0) then Signals true (move_cursor m 1 (record s { steps = k })) else Signals false (record s { steps = k }))
test_is wanted class g m s k xs e t a =
    let u = record s { steps = k } in
    ap (λ n. then_on (pay n s) (test_grouping wanted class g m)) e
    ∙ ap (λ ts. one_of wanted class m (record s { steps = k; touched = ts })) t
    ∙ ap (λ ys. if next_is wanted class (slice_get ys 0) then Signals true (move_cursor m 1 u) else Signals false u) (ahead_paid m s k ∙ a)

end_there : (past : Bool) (m : Mode) (s : State) (k : ℕ) → s.cursor ≤ length s.text → end_search past m s (move_cursor m 1 (record s { steps = k })) ≡ Signals true (record (move_cursor m (if past then 1 else 0) s) { steps = k })
end_there true m s k l = ap (Signals true) (moved_once m s k)
end_there false m s k l = put_before m s k l ∙ ap (Signals true) (not_moved m s k)

-- what follows a test that signals t
turn_met : (n : ℕ) (past : Bool) (c : Doing) (m : Mode) (s : State) (k others : ℕ) → s.cursor ≤ length s.text → c m s ≡ Signals true (move_cursor m 1 (record s { steps = k })) → seeks (suc n) past c m s ≡ seek_ending past m (suc k) 0 (suc others) s
turn_met n past c m s k others l e =
    let go = λ (b : State). after (next m b) (seeks n past c m) (Signals false) in
    let j : k ≡ suc k - 1 = omega arith in
    ap (λ r. after r (end_search past m s) (λ f. then_on (put_back m (saved_cursor s) f) go)) e
    ∙ end_there past m s k l
    ∙ ap (λ j. Signals true (record (move_cursor m (if past then 1 else 0) s) { steps = j })) j
    ∙ sym (seek_ending_met past m (suc k) 0 (suc others) s (omega arith) (omega arith))

-- what follows a test that signals f
not_met : (n : ℕ) (past : Bool) (c : Doing) (m : Mode) (s : State) (k : ℕ) → s.cursor ≤ length s.text → c m s ≡ Signals false (record s { steps = k }) → seeks (suc n) past c m s ≡ after (if nat_le 1 (room m s) then Signals true (move_cursor m 1 (record s { steps = k })) else Signals false (record s { steps = k })) (seeks n past c m) (Signals false)
not_met n past c m s k l e =
    let u = record s { steps = k } in
    let go = λ (b : State). after (next m b) (seeks n past c m) (Signals false) in
    ap (λ r. after r (end_search past m s) (λ f. then_on (put_back m (saved_cursor s) f) go)) e
    ∙ ap (λ r. then_on r go) (put_there m s s.cursor k l)
    ∙ ap (λ r. after (if nat_le 1 r then Signals true (move_cursor m 1 u) else Signals false u) (seeks n past c m) (Signals false)) (room_paid m s k)

-- ---- all tests

one_further : (past : Bool) (n : ℕ) → (if past then suc (suc n) else suc n) ≡ suc (if past then suc n else n)
one_further true n = refl
one_further false n = refl

go_same : {b d p q : Bool} {x x' y y' z z' : State} → b ≡ d → p ≡ q → x ≡ x' → y ≡ y' → z ≡ z' → (if b then Stops Steps x else if p then Signals true y else Signals false z) ≡ (if d then Stops Steps x' else if q then Signals true y' else Signals false z')
go_same e f x y z = cc

-- a character that is passed over
seek_ending_on : (past : Bool) (m : Mode) (k before others : ℕ) (s : State) → seek_ending past m k before others (move_cursor m 1 (record s { steps = k })) ≡ seek_ending past m (suc k) (suc before) (suc others) s
seek_ending_on past m k before others s =
    let t = move_cursor m 1 (record s { steps = k }) in
    let i = k - suc before in
    let j : i ≡ suc k - suc (suc before) = omega arith in
    let n = if past then suc before else before in
    let x : record (move_cursor m k t) { steps = 0 } ≡ record (move_cursor m (suc k) s) { steps = 0 } = moved_on m k s k 0 in
    let y : record (move_cursor m n t) { steps = i } ≡ record (move_cursor m (if past then suc (suc before) else suc before) s) { steps = suc k - suc (suc before) } =
    moved_on m n s k i
    ∙ ap (λ n. record (move_cursor m n s) { steps = i }) (sym (one_further past before))
    ∙ ap (λ j. record (move_cursor m (if past then suc (suc before) else suc before) s) { steps = j }) j in
    let z : record (move_cursor m before t) { steps = i } ≡ record (move_cursor m (suc before) s) { steps = suc k - suc (suc before) } =
    moved_on m before s k i ∙ ap (λ j. record (move_cursor m (suc before) s) { steps = j }) j in
    go_same (sym (le_both k before)) (sym (le_both (suc before) others)) x y z

abbrev Seeks : ℕ → List ℕ → Bool → Bool → (ℕ → Bool) → ℕ → Mode → Type 0
Seeks n xs past wanted class g m = (s : State) → s.steps ≡ n → s.cursor ≤ length s.text → with_touch (Tested g) s.touched ≡ s.touched → ahead m s ≡ xs → seeks (suc n) past (pay_first (test_grouping wanted class g)) m s ≡ seek_ending past m n (count_before wanted class xs) (length xs) s

try_first : (k : ℕ) (x : ℕ) (xs : List ℕ) (past wanted : Bool) (class : ℕ → Bool) (g : ℕ) (m : Mode) (b : Bool) → next_is wanted class (Some x) ≡ b → Seeks k xs past wanted class g m → Seeks (suc k) (x ∷ xs) past wanted class g m
try_first k x xs past wanted class g m true b h s e l t a =
    turn_met (suc k) past (pay_first (test_grouping wanted class g)) m s k (length xs) l (test_is wanted class g m s k (x ∷ xs) e t a ∙ ap (λ b. if b then Signals true (move_cursor m 1 (record s { steps = k })) else Signals false (record s { steps = k })) b)
    ∙ ap (λ b. seek_ending past m (suc k) (if not b then 1 + count_before wanted class xs else 0) (suc (length xs)) s) (sym b)
try_first k x xs past wanted class g m false b h s e l t a =
    let c = pay_first (test_grouping wanted class g) in
    let u = move_cursor m 1 (record s { steps = k }) in
    let r : room m s ≡ suc (length xs) = room_is m s l ∙ ap length a in
    let n : suc (count_before wanted class xs) ≡ 1 + count_before wanted class xs = omega arith in
    let yes : nat_le 1 (room m s) ≡ true = le-leb 1 (room m s) (omega (arith, r)) in
    not_met (suc k) past c m s k l (test_is wanted class g m s k (x ∷ xs) e t a ∙ ap (λ b. if b then Signals true u else Signals false (record s { steps = k })) b)
    ∙ ap (λ b. after (if b then Signals true u else Signals false (record s { steps = k })) (seeks (suc k) past c m) (Signals false)) yes
    ∙ h u (steps_left m s k) (inside m s k x xs l a) (still_touched m s k g t) (ahead_after m (record s { steps = k }) x xs l (ahead_paid m s k ∙ a))
    ∙ seek_ending_on past m k (count_before wanted class xs) (length xs) s
    ∙ ap (λ n. seek_ending past m (suc k) n (suc (length xs)) s) n
    ∙ ap (λ b. seek_ending past m (suc k) (if not b then 1 + count_before wanted class xs else 0) (suc (length xs)) s) (sym b)

seeks_all : (n : ℕ) (xs : List ℕ) (past wanted : Bool) (class : ℕ → Bool) (g : ℕ) (m : Mode) → Seeks n xs past wanted class g m
seeks_all zero xs past wanted class g m s e l t a =
    let c = pay_first (test_grouping wanted class g) in
    let p : c m s ≡ Stops Steps s = ap (λ n. then_on (pay n s) (test_grouping wanted class g m)) e in
    let z : s ≡ record (move_cursor m 0 s) { steps = 0 } = ap (λ k. record s { steps = k }) e ∙ not_moved m s 0 in
    let go = λ (b : State). after (next m b) (seeks 0 past c m) (Signals false) in
    ap (λ r. after r (end_search past m s) (λ f. then_on (put_back m (saved_cursor s) f) go)) p
    ∙ ap (Stops Steps) z
    ∙ sym (seek_ending_short past m 0 (count_before wanted class xs) (length xs) s (omega arith))
seeks_all (suc k) [] past wanted class g m s e l t a =
    let c = pay_first (test_grouping wanted class g) in
    let j : k ≡ suc k - 1 = omega arith in
    let r : room m s ≡ 0 = room_is m s l ∙ ap length a in
    let none : nat_le 1 (room m s) ≡ false = not_at_most 1 (room m s) (omega (arith, r)) in
    let u = record s { steps = k } in
    not_met (suc k) past c m s k l (test_is wanted class g m s k [] e t a)
    ∙ ap (λ b. after (if b then Signals true (move_cursor m 1 u) else Signals false u) (seeks (suc k) past c m) (Signals false)) none
    ∙ ap (Signals false) (not_moved m s k)
    ∙ ap (λ j. Signals false (record (move_cursor m 0 s) { steps = j })) j
    ∙ sym (seek_ending_none past m (suc k) 0 0 s (omega arith) (omega arith))
seeks_all (suc k) (x ∷ xs) past wanted class g m s e l t a =
    try_first k x xs past wanted class g m (next_is wanted class (Some x)) refl (seeks_all k xs past wanted class g m) s e l t a

-- ---- with the steps and the text of the state

pub seeks_is : (past wanted : Bool) (class : ℕ → Bool) (g : ℕ) (m : Mode) (s : State) → s.cursor ≤ length s.text → with_touch (Tested g) s.touched ≡ s.touched → seeks (suc s.steps) past (pay_first (test_grouping wanted class g)) m s ≡ seek_ending past m s.steps (count_before wanted class (ahead m s)) (room m s) s
seeks_is past wanted class g m s l t =
    seeks_all s.steps (ahead m s) past wanted class g m s refl l t refl
    ∙ ap (λ n. seek_ending past m s.steps (count_before wanted class (ahead m s)) n s) (sym (room_is m s l))

pub count_in_room : (wanted : Bool) (class : ℕ → Bool) (m : Mode) (s : State) → s.cursor ≤ length s.text → count_before wanted class (ahead m s) ≤ room m s
count_in_room wanted class m s l =
    let r = room_is m s l in
    let k = prefix_len-le-length (λ c. not (next_is wanted class (Some c))) (ahead m s) in
    omega (arith, r, k)

length_if : (n l : ℕ) (b : Bool) → nat_lt n l ≡ b → n ≤ l → unwrap_or (if b then Some n else None) l ≡ n
length_if n l true e h = refl
length_if n l false e h = let k : l ≤ n = ltb-false n l e in omega arith

pub read_length : (m : Mode) (part : List ℕ) → length (read_as m part) ≡ length part
read_length Forward part = refl
read_length Backward part = length-reverse part

-- the place of the first that is met, or else the length
pub place_or_length : (m : Mode) (wanted : Bool) (class : ℕ → Bool) (part : List ℕ) → unwrap_or (position (λ c. next_is wanted class (Some c)) (read_as m part)) (length part) ≡ count_before wanted class (read_as m part)
place_or_length m wanted class part =
    let p = λ (c : ℕ). next_is wanted class (Some c) in
    let xs = read_as m part in
    ap (unwrap_or (position p xs)) (sym (read_length m part))
    ∙ length_if (position_or_len p xs) (length xs) _ refl (prefix_len-le-length (λ x. not (p x)) xs)

-- the class with a number
pub class_of : {A : Type 0} (f : A → ℕ → Bool) (classes : List A) (number : ℕ) (class : A) → slice_get classes number ≡ Some class → f class ≡ class_at (map f classes) number
class_of f [] number class e = let no : ⊥ = cc in absurd no
class_of f (x ∷ xs) zero class e = let same : x ≡ class = cc in ap f (sym same)
class_of f (x ∷ xs) (suc n) class e = class_of f xs n class e

pub no_class : {A : Type 0} (f : A → ℕ → Bool) (classes : List A) (number : ℕ) → slice_get classes number ≡ None → class_at (map f classes) number ≡ no_character
no_class f [] number e = refl
no_class f (x ∷ xs) zero e = let no : ⊥ = cc in absurd no
no_class f (x ∷ xs) (suc n) e = no_class f xs n e

-- a grouping that there is not has no characters
pub none_met : (xs : List ℕ) → count_before true no_character xs ≡ length xs
none_met [] = refl
none_met (x ∷ xs) = let j : 1 + count_before true no_character xs ≡ suc (count_before true no_character xs) = omega arith in j ∙ ap suc (none_met xs)

pub first_met : (xs : List ℕ) → count_before false no_character xs ≡ 0
first_met [] = refl
first_met (x ∷ xs) = refl
