-- No run reads what was touched: from a state with other touches it does the same.
use Rattle.std.proofs.Common.{◌≡◌, ℕ, zero, suc, ◌+◌, ◌-◌, Bool, true, false, List, [], ◌∷◌, length, Option, Some, None, Ok, Err, refl, sym, ap, subst, ◌∙◌}
use Rattle.std.specs.Prelude.{ℤ, ◌&&◌, nat_le, nat_lt, nat_eq, neg_ℤ, ◌+ℤ◌, ◌-ℤ◌, ◌*ℤ◌, slice_get, if◌then◌else◌}
use Rattle.std.specs.List.{starts_with}
use Rattle.sbl_ast.specs.declared.mode.Mode.{Mode}
use Rattle.sbl_ast.specs.declared.mode.Mode.TheVariants.{Forward, Backward}
use Rattle.sbl_program.specs.declared.node.Candidate.{Candidate}
use Rattle.sbl_program.specs.AmongStrings.{Listing}
use Rattle.sbl_program.specs.Listing.{fits_at}
use Rattle.sbl_program.specs.Actions.{acts}
use Rattle.sbl_program.specs.Arithmetic.{characters, value, changed_value}
use Rattle.sbl_program.specs.Program as programs
use Rattle.sbl_program.specs.Run as run
use Rattle.sbl_program.specs.Search.{bound_in, condition_does, try_one, tries, search_all}
use Rattle.sbl_program.specs.Start.{start}
use Rattle.sbl_program.specs.Terms.{class_at}
use Rattle.sbl_ast.specs.Source.{Source}
use Rattle.sbl_machine.proofs.SoundRuns.{same_run}
use Rattle.sbl_machine.specs.NumberedScript.{numbered_script}
use Rattle.sbl_semantics.specs.Outcome.{outcome_at, run_of, used_at, used_of}
use Rattle.sbl_semantics.specs.Choices.{choice, take_string, touch_among}
use Rattle.sbl_semantics.specs.Control.{turns, times, count_of, seeks, limits, limit_here, restore_limit, backwards_from, backwards_end, with_group, pay_first, enter}
use Rattle.sbl_semantics.specs.Fitting.{read_as}
use Rattle.sbl_semantics.specs.Moves.{match, one_of, next, hop, at_limit, at_mark, to_mark, touch_grouping}
use Rattle.sbl_semantics.specs.inside.MoveParts.{next_is}
use Rattle.sbl_semantics.specs.Numbers.{Value, value_in_range, rounded_quotient, with_value, with_both, limit_value, integer_at, natural, continue_with}
use Rattle.sbl_semantics.specs.Slices.{is_slice, replace_slice, replace, keep, insert_string, put_in, insert, attach}
use Rattle.sbl_semantics.specs.State.{State, Ending, Signals, Stops, Doing, ahead, room, after, then_on, pay, at_place, at_difference, to_limit, saved_cursor, put_back, step_over, place_after}
use Rattle.sbl_semantics.specs.Touches.{with_touch}
use Rattle.sbl_semantics.specs.declared.cursor.SavedCursor.{SavedCursor}
use Rattle.sbl_semantics.specs.declared.fault.RunFault.TheVariants as faults
use Rattle.sbl_semantics.specs.declared.touch.Touch.{Touch}
use Rattle.sbl_semantics.specs.declared.touch.Touch.TheVariants.{Entered, Searched, Tested}

-- a state with other touches
abbrev touching : List Touch → State → State
touching ts s = record s { touched = ts }

-- the same ending, but for what is touched
abbrev Same : Ending → Ending → Type 0
Same (Signals b s) e = (ts : List Touch) × (e ≡ Signals b (touching ts s))
Same (Stops fault s) e = (ts : List Touch) × (e ≡ Stops fault (touching ts s))

-- what goes on the same whatever is touched
abbrev Blind : (State → Ending) → Type 0
Blind f = (ts : List Touch) (s : State) → Same (f s) (f (touching ts s))

-- ---- one after another

after_same : (e e' : Ending) (f g f' g' : State → Ending) → Same e e' → ((ts : List Touch) (s : State) → Same (f s) (f' (touching ts s))) → ((ts : List Touch) (s : State) → Same (g s) (g' (touching ts s))) → Same (after e f g) (after e' f' g')
after_same (Signals true s) e' f g f' g' h on_t on_f = subst (λ x. Same (f s) (after x f' g')) (sym h.1) (on_t h.0 s)
after_same (Signals false s) e' f g f' g' h on_t on_f = subst (λ x. Same (g s) (after x f' g')) (sym h.1) (on_f h.0 s)
after_same (Stops fault s) e' f g f' g' h on_t on_f = (h.0, ap (λ x. after x f' g') h.1)

signals_same : (b : Bool) → Blind (Signals b)
signals_same b ts s = (ts, refl)

then_same : (e e' : Ending) (f : State → Ending) → Same e e' → Blind f → Same (then_on e f) (then_on e' f)
then_same e e' f h go = after_same e e' f (Signals false) f (Signals false) h go (signals_same false)

if_same : (b : Bool) (x y x' y' : Ending) → Same x x' → Same y y' → Same (if b then x else y) (if b then x' else y')
if_same true x y x' y' h i = h
if_same false x y x' y' h i = i

given_same : (v v' : Value) (ts : List Touch) (s : State) (go go' : ℤ → Ending) → v' ≡ v → ((z : ℤ) → Same (go z) (go' z)) → Same (continue_with v s go) (continue_with v' (touching ts s) go')
given_same (Ok z) v' ts s go go' e h = subst (λ x. Same (go z) (continue_with x (touching ts s) go')) (sym e) (h z)
given_same (Err fault) v' ts s go go' e h = subst (λ x. Same (Stops fault s) (continue_with x (touching ts s) go')) (sym e) (ts, refl)

pay_same : (n : ℕ) → Blind (pay n)
pay_same zero ts s = (ts, refl)
pay_same (suc n) ts s = (ts, refl)

paid_same : (d : Doing) → ((m : Mode) → Blind (d m)) → (m : Mode) → Blind (pay_first d m)
paid_same d h m ts s = then_same (pay s.steps s) (pay s.steps (touching ts s)) (d m) (pay_same s.steps ts s) (h m)

-- ---- the cursor at a place

at_place_same : (p : ℕ) → Blind (at_place p)
at_place_same p ts s = if_same (nat_le p (length s.text)) _ _ _ _ (ts, refl) (ts, refl)

at_difference_same : (a b : ℕ) → Blind (at_difference a b)
at_difference_same a b ts s = if_same (nat_lt a b) _ _ _ _ (ts, refl) (at_place_same (a - b) ts s)

to_limit_same : (m : Mode) → Blind (to_limit m)
to_limit_same Forward ts s = at_difference_same (length s.text) s.beyond ts s
to_limit_same Backward ts s = at_place_same s.left ts s

put_back_same : (m : Mode) (from : SavedCursor) → Blind (put_back m from)
put_back_same Forward from ts s = at_place_same from.cursor ts s
put_back_same Backward from ts s = at_difference_same (length s.text + from.beyond + from.cursor) (s.beyond + from.length) ts s

step_over_same : (m : Mode) (i : ℕ) → Blind (step_over m i)
step_over_same Forward i ts s = at_place_same (s.cursor + i) ts s
step_over_same Backward i ts s = at_difference_same s.cursor i ts s

place_after_same : (m : Mode) (from : SavedCursor) (i : ℕ) → Blind (place_after m from i)
place_after_same m from i ts s = then_same _ _ (step_over m i) (put_back_same m from ts s) (step_over_same m i)

next_same : (m : Mode) → Blind (next m)
next_same Forward ts s = if_same (nat_le 1 (room Forward s)) _ _ _ _ (ts, refl) (ts, refl)
next_same Backward ts s = if_same (nat_le 1 (room Backward s)) _ _ _ _ (ts, refl) (ts, refl)

-- ---- turns, and seeking

turns_same : (c : Doing) → ((m : Mode) → Blind (c m)) → (n : ℕ) (m : Mode) → Blind (turns n c m)
turns_same c h zero m ts s = (ts, refl)
turns_same c h (suc n) m ts s =
    let back = put_back m (saved_cursor s) in
    after_same (c m s) (c m (touching ts s)) (turns n c m) back (turns n c m) back (h m ts s) (turns_same c h n m) (put_back_same m (saved_cursor s))

times_same : (c : Doing) → ((m : Mode) → Blind (c m)) → (n : ℕ) (m : Mode) → Blind (times n c m)
times_same c h zero m ts s = (ts, refl)
times_same c h (suc n) m ts s = then_same (c m s) (c m (touching ts s)) (times n c m) (h m ts s) (times_same c h n m)

found_same : (past : Bool) (m : Mode) (from : SavedCursor) → Blind (λ t. if past then Signals true t else put_back m from t)
found_same past m from ts s = if_same past _ _ _ _ (ts, refl) (put_back_same m from ts s)

seeks_same : (past : Bool) (c : Doing) → ((m : Mode) → Blind (c m)) → (n : ℕ) (m : Mode) → Blind (seeks n past c m)
seeks_same past c h zero m ts s = (ts, refl)
seeks_same past c h (suc n) m ts s =
    let from = saved_cursor s in
    let found : State → Ending = λ t. if past then Signals true t else put_back m from t in
    let onward : State → Ending = λ b. after (hop (Some 1) m b) (seeks n past c m) (Signals false) in
    after_same (c m s) (c m (touching ts s)) found (λ f. then_on (put_back m from f) onward) found (λ f. then_on (put_back m from f) onward) (h m ts s) (found_same past m from)
    (λ us t. then_same (put_back m from t) (put_back m from (touching us t)) onward (put_back_same m from us t)
    (λ vs u. then_same (next m u) (next m (touching vs u)) (seeks n past c m) (next_same m vs u) (seeks_same past c h n m)))

-- ---- the slice and the text

replace_same : (cs : List ℕ) → Blind (replace cs)
replace_same cs ts s =
    if_same (is_slice s) _ _ _ _
    (if_same (nat_le (length s.text + length cs - (s.ket - s.bra)) 1024) (Signals true (replace_slice cs s)) (Stops faults.TooLong s) (Signals true (replace_slice cs (touching ts s))) (Stops faults.TooLong (touching ts s)) (ts, refl) (ts, refl))
    (ts, refl)

keep_same : (x : ℕ) → Blind (keep x)
keep_same x ts s = if_same (is_slice s) _ _ _ _ (ts, refl) (ts, refl)

put_in_same : (right : Bool) (cs : List ℕ) → Blind (put_in right cs)
put_in_same right cs ts s =
    if_same (nat_le (s.cursor + s.beyond) (length s.text)) _ _ _ _
    (if_same (nat_le (length s.text + length cs) 1024) (Signals true (insert_string right cs s)) (Stops faults.TooLong s) (Signals true (insert_string right cs (touching ts s))) (Stops faults.TooLong (touching ts s)) (ts, refl) (ts, refl))
    (ts, refl)

-- ---- moving and testing

match_same : (cs : List ℕ) (m : Mode) → Blind (match cs m)
match_same cs Forward ts s = if_same (starts_with nat_eq (ahead Forward s) (read_as Forward cs)) _ _ _ _ (ts, refl) (ts, refl)
match_same cs Backward ts s = if_same (starts_with nat_eq (ahead Backward s) (read_as Backward cs)) _ _ _ _ (ts, refl) (ts, refl)

class_same : (wanted : Bool) (has : ℕ → Bool) (m : Mode) → Blind (one_of wanted has m)
class_same wanted has Forward ts s = if_same (next_is wanted has (slice_get (ahead Forward s) 0)) _ _ _ _ (ts, refl) (ts, refl)
class_same wanted has Backward ts s = if_same (next_is wanted has (slice_get (ahead Backward s) 0)) _ _ _ _ (ts, refl) (ts, refl)

hop_same : (o : Option ℕ) (m : Mode) → Blind (hop o m)
hop_same None m ts s = (ts, refl)
hop_same (Some i) Forward ts s = if_same (nat_le i (room Forward s)) _ _ _ _ (ts, refl) (ts, refl)
hop_same (Some i) Backward ts s = if_same (nat_le i (room Backward s)) _ _ _ _ (ts, refl) (ts, refl)

to_mark_same : (o : Option ℕ) (m : Mode) → Blind (to_mark o m)
to_mark_same None m ts s = (ts, refl)
to_mark_same (Some i) Forward ts s = if_same (nat_le s.cursor i && nat_le (i + s.beyond) (length s.text)) _ _ _ _ (ts, refl) (ts, refl)
to_mark_same (Some i) Backward ts s = if_same (nat_le s.left i && nat_le i s.cursor) _ _ _ _ (ts, refl) (ts, refl)

at_mark_same : (o : Option ℕ) → Blind (at_mark o)
at_mark_same None ts s = (ts, refl)
at_mark_same (Some i) ts s = (ts, refl)

at_limit_same : (m : Mode) → Blind (at_limit m)
at_limit_same Forward ts s = (ts, refl)
at_limit_same Backward ts s = (ts, refl)

-- ---- strings and numbers

characters_same : (t : programs.StringTerm) (ts : List Touch) (s : State) → characters t (touching ts s) ≡ characters t s
characters_same (programs.literal cs) ts s = refl
characters_same (programs.variable i) ts s = refl

both_same : (v v' w w' : Value) (go : ℤ → ℤ → Value) → v' ≡ v → w' ≡ w → with_both v' w' go ≡ with_both v w go
both_same v v' w w' go e f = ap (λ x. with_both x w' go) e ∙ ap (λ y. with_both v y go) f

limit_same : (m : Mode) (ts : List Touch) (s : State) → limit_value m (touching ts s) ≡ limit_value m s
limit_same Forward ts s = refl
limit_same Backward ts s = refl

value_same : (a : programs.Arithmetic) (m : Mode) (ts : List Touch) (s : State) → value a m (touching ts s) ≡ value a m s
value_same (programs.number n) m ts s = refl
value_same (programs.integer x) m ts s = refl
value_same programs.cursor m ts s = refl
value_same programs.limit m ts s = limit_same m ts s
value_same programs.len m ts s = refl
value_same (programs.lenof t) m ts s = ap (λ cs. value_in_range (ℤ.pos (length cs))) (characters_same t ts s)
value_same programs.maxint m ts s = refl
value_same programs.minint m ts s = refl
value_same (programs.negative a) m ts s = ap (λ v. with_value v (λ x. value_in_range (neg_ℤ x))) (value_same a m ts s)
value_same (programs.sum a b) m ts s = both_same _ _ _ _ (λ x y. value_in_range (x +ℤ y)) (value_same a m ts s) (value_same b m ts s)
value_same (programs.difference a b) m ts s = both_same _ _ _ _ (λ x y. value_in_range (x -ℤ y)) (value_same a m ts s) (value_same b m ts s)
value_same (programs.product a b) m ts s = both_same _ _ _ _ (λ x y. value_in_range (x *ℤ y)) (value_same a m ts s) (value_same b m ts s)
value_same (programs.quotient a b) m ts s = both_same _ _ _ _ rounded_quotient (value_same a m ts s) (value_same b m ts s)

-- ---- each command that contains no command

acts_same : (classes : List (ℕ → Bool)) (a : programs.Action) (m : Mode) → Blind (acts classes a m)
acts_same classes (programs.match t) m ts s = subst (λ cs. Same (match (characters t s) m s) (match cs m (touching ts s))) (sym (characters_same t ts s)) (match_same (characters t s) m ts s)
acts_same classes (programs.grouping g) m ts s = class_same true (class_at classes g) m (with_touch (Tested g) ts) (touch_grouping g s)
acts_same classes (programs.non g) m ts s = class_same false (class_at classes g) m (with_touch (Tested g) ts) (touch_grouping g s)
acts_same classes programs.next m ts s = next_same m ts s
acts_same classes (programs.hop a) m ts s = given_same (value a m s) (value a m (touching ts s)) ts s _ _ (value_same a m ts s) (λ z. hop_same (natural z) m ts s)
acts_same classes programs.tolimit m ts s = to_limit_same m ts s
acts_same classes programs.atlimit m ts s = at_limit_same m ts s
acts_same classes (programs.setmark x) m ts s = (ts, refl)
acts_same classes (programs.atmark a) m ts s = given_same (value a m s) (value a m (touching ts s)) ts s _ _ (value_same a m ts s) (λ z. at_mark_same (natural z) ts s)
acts_same classes (programs.tomark a) m ts s = given_same (value a m s) (value a m (touching ts s)) ts s _ _ (value_same a m ts s) (λ z. to_mark_same (natural z) m ts s)
acts_same classes (programs.set b) m ts s = (ts, refl)
acts_same classes (programs.unset b) m ts s = (ts, refl)
acts_same classes (programs.boolean b) m ts s = (ts, refl)
acts_same classes programs.left_bracket Forward ts s = (ts, refl)
acts_same classes programs.left_bracket Backward ts s = (ts, refl)
acts_same classes programs.right_bracket Forward ts s = (ts, refl)
acts_same classes programs.right_bracket Backward ts s = (ts, refl)
acts_same classes (programs.replace t) m ts s = subst (λ cs. Same (replace (characters t s) s) (replace cs (touching ts s))) (sym (characters_same t ts s)) (replace_same (characters t s) ts s)
acts_same classes programs.delete m ts s = replace_same [] ts s
acts_same classes (programs.keep x) m ts s = keep_same x ts s
acts_same classes (programs.insert t) Forward ts s = subst (λ cs. Same (put_in true (characters t s) s) (put_in true cs (touching ts s))) (sym (characters_same t ts s)) (put_in_same true (characters t s) ts s)
acts_same classes (programs.insert t) Backward ts s = subst (λ cs. Same (put_in false (characters t s) s) (put_in false cs (touching ts s))) (sym (characters_same t ts s)) (put_in_same false (characters t s) ts s)
acts_same classes (programs.attach t) Forward ts s = subst (λ cs. Same (put_in false (characters t s) s) (put_in false cs (touching ts s))) (sym (characters_same t ts s)) (put_in_same false (characters t s) ts s)
acts_same classes (programs.attach t) Backward ts s = subst (λ cs. Same (put_in true (characters t s) s) (put_in true cs (touching ts s))) (sym (characters_same t ts s)) (put_in_same true (characters t s) ts s)
acts_same classes (programs.assign x change a) m ts s =
    given_same (with_value (value a m s) (changed_value change (integer_at x s))) (with_value (value a m (touching ts s)) (changed_value change (integer_at x s))) ts s _ _
    (ap (λ v. with_value v (changed_value change (integer_at x s))) (value_same a m ts s)) (λ z. (ts, refl))
acts_same classes (programs.compare a relation b) m ts s =
    given_same (value a m s) (value a m (touching ts s)) ts s _ _ (value_same a m ts s)
    (λ x. given_same (value b m s) (value b m (touching ts s)) ts s _ _ (value_same b m ts s) (λ y. (ts, refl)))
acts_same classes programs.t m ts s = (ts, refl)
acts_same classes programs.f m ts s = (ts, refl)

-- ---- limits and groups

back_here_same : (m : Mode) (from : SavedCursor) → Blind (λ t. put_back m from (limit_here m t))
back_here_same Forward from ts s = put_back_same Forward from ts (limit_here Forward s)
back_here_same Backward from ts s = put_back_same Backward from ts (limit_here Backward s)

restored_same : (m : Mode) (s : State) (ts : List Touch) (e e' : Ending) → Same e e' → Same (restore_limit m (limits s) e) (restore_limit m (limits (touching ts s)) e')
restored_same Forward s ts e e' h = after_same e e' _ _ _ _ h (λ us t. (us, refl)) (λ us t. (us, refl))
restored_same Backward s ts e e' h = after_same e e' _ _ _ _ h (λ us t. (us, refl)) (λ us t. (us, refl))

limited_same : (a b : Doing) → ((m : Mode) → Blind (a m)) → ((m : Mode) → Blind (b m)) → (m : Mode) (ts : List Touch) (s : State) →
    Same (after (a m s) (λ t. then_on (put_back m (saved_cursor s) (limit_here m t)) (λ u. restore_limit m (limits s) (b m u))) (Signals false))
    (after (a m (touching ts s)) (λ t. then_on (put_back m (saved_cursor s) (limit_here m t)) (λ u. restore_limit m (limits s) (b m u))) (Signals false))
limited_same a b h i m ts s =
    let within : State → Ending = λ u. restore_limit m (limits s) (b m u) in
    let on : State → Ending = λ t. then_on (put_back m (saved_cursor s) (limit_here m t)) within in
    after_same (a m s) (a m (touching ts s)) on (Signals false) on (Signals false) (h m ts s)
    (λ us t. then_same (put_back m (saved_cursor s) (limit_here m t)) (put_back m (saved_cursor s) (limit_here m (touching us t))) within (back_here_same m (saved_cursor s) us t)
    (λ vs u. restored_same m s ts (b m u) (b m (touching vs u)) (i m vs u)))
    (signals_same false)

chosen_same : (o : Option ℕ) (ts : List Touch) (s : State) (go go' : ℕ → Ending) → ((g : ℕ) → Same (go g) (go' g)) → Same (with_group o s go) (with_group o (touching ts s) go')
chosen_same None ts s go go' h = (ts, refl)
chosen_same (Some g) ts s go go' h = h g

-- ---- searches

module _ (call : ℕ → Doing) (blind : (i : ℕ) (m : Mode) → Blind (call i m)) where
  condition_same : (o : Option ℕ) (m : Mode) → Blind (condition_does call o m)
  condition_same None m ts s = (ts, refl)
  condition_same (Some i) m ts s = paid_same (call i) (blind i) m ts s

  one_same : (k : ℕ) (o : Option Candidate) (m : Mode) (from : State) (ts us : List Touch) (s : State) (next next' : State → Ending) → ((vs : List Touch) (t : State) → Same (next t) (next' (touching vs t)))
      → Same (try_one call k o m from s next) (try_one call k o m (touching ts from) (touching us s) next')
  one_same k None m from ts us s next next' h = (us, refl)
  one_same k (Some e) m from ts us s next next' h =
      let to = place_after m (saved_cursor from) e.length in
      let to_same = place_after_same m (saved_cursor from) e.length in
      let taken : State → Ending = λ b. then_on (to b) (λ c. Signals true (take_string k e.length e.group c)) in
      after_same (to s) (to (touching us s)) (λ a. after (condition_does call e.condition m a) taken next) (Signals false) (λ a. after (condition_does call e.condition m a) taken next') (Signals false) (to_same us s)
      (λ vs a. after_same (condition_does call e.condition m a) (condition_does call e.condition m (touching vs a)) taken next taken next' (condition_same e.condition m vs a)
      (λ ws b. then_same (to b) (to (touching ws b)) (λ c. Signals true (take_string k e.length e.group c)) (to_same ws b) (λ xs c. (xs, refl)))
      h)
      (signals_same false)

  tries_same : (k : ℕ) (entries : List Candidate) (m : Mode) (from : State) (ts : List Touch) (is : List ℕ) (us : List Touch) (s : State) → Same (tries call k entries m from is s) (tries call k entries m (touching ts from) is (touching us s))
  tries_same k entries m from ts [] us s = (us, refl)
  tries_same k entries m from ts (i ∷ is) us s =
      one_same k (slice_get entries i) m from ts us s (tries call k entries m from is) (tries call k entries m (touching ts from) is) (tries_same k entries m from ts is)

  search_same : (k : ℕ) (entries : List Candidate) (strings : Listing) (m : Mode) → Blind (search_all call k entries strings m)
  search_same k entries strings Forward ts s =
      let begun = touch_among k Forward s in
      let us = with_touch (Searched s.routine k) ts in
      tries_same k entries Forward begun us (fits_at strings s.text s.cursor (bound_in Forward s)) us begun
  search_same k entries strings Backward ts s =
      let begun = touch_among k Backward s in
      let us = with_touch (Searched s.routine k) ts in
      tries_same k entries Backward begun us (fits_at strings s.text s.cursor (bound_in Backward s)) us begun

  -- ---- each command

  module _ (classes : List (ℕ → Bool)) where
    abbrev does : programs.Node → Doing
    does = run.act classes call

    mutual
      act_same : (c : programs.Node) (m : Mode) → Blind (does c m)
      act_same (programs.act a) m ts s = acts_same classes a m ts s
      act_same (programs.sequence cs) m ts s = in_turn_same cs m ts s
      act_same (programs.either a b) m ts s =
          let other : State → Ending = λ f. then_on (put_back m (saved_cursor s) f) (pay_first (does b) m) in
          after_same _ _ (Signals true) other (Signals true) other (paid_same (does a) (act_same a) m ts s) (signals_same true)
          (λ us t. then_same _ _ (pay_first (does b) m) (put_back_same m (saved_cursor s) us t) (paid_same (does b) (act_same b) m))
      act_same (programs.both a b) m ts s =
          let other : State → Ending = λ t. then_on (put_back m (saved_cursor s) t) (pay_first (does b) m) in
          after_same _ _ other (Signals false) other (Signals false) (paid_same (does a) (act_same a) m ts s)
          (λ us t. then_same _ _ (pay_first (does b) m) (put_back_same m (saved_cursor s) us t) (paid_same (does b) (act_same b) m)) (signals_same false)
      act_same (programs.not a) m ts s = let back = put_back m (saved_cursor s) in after_same _ _ (Signals false) back (Signals false) back (paid_same (does a) (act_same a) m ts s) (signals_same false) (put_back_same m (saved_cursor s))
      act_same (programs.test a) m ts s = let back = put_back m (saved_cursor s) in after_same _ _ back (Signals false) back (Signals false) (paid_same (does a) (act_same a) m ts s) (put_back_same m (saved_cursor s)) (signals_same false)
      act_same (programs.try a) m ts s = let back = put_back m (saved_cursor s) in after_same _ _ (Signals true) back (Signals true) back (paid_same (does a) (act_same a) m ts s) (signals_same true) (put_back_same m (saved_cursor s))
      act_same (programs.do_ a) m ts s = let back = put_back m (saved_cursor s) in after_same _ _ back back back back (paid_same (does a) (act_same a) m ts s) (put_back_same m (saved_cursor s)) (put_back_same m (saved_cursor s))
      act_same (programs.fail a) m ts s = after_same _ _ (Signals false) (Signals false) (Signals false) (Signals false) (paid_same (does a) (act_same a) m ts s) (signals_same false) (signals_same false)
      act_same (programs.repeat a) m ts s = turns_same (pay_first (does a)) (paid_same (does a) (act_same a)) (suc s.steps) m ts s
      act_same (programs.loop n a) m ts s =
          given_same (value n m s) (value n m (touching ts s)) ts s _ _ (value_same n m ts s) (λ z. times_same (pay_first (does a)) (paid_same (does a) (act_same a)) (count_of z) m ts s)
      act_same (programs.atleast n a) m ts s =
          let again : State → Ending = λ t. turns (suc t.steps) (pay_first (does a)) m t in
          after_same _ _ again (Signals false) again (Signals false)
          (given_same (value n m s) (value n m (touching ts s)) ts s _ _ (value_same n m ts s) (λ z. times_same (pay_first (does a)) (paid_same (does a) (act_same a)) (count_of z) m ts s))
          (λ us t. turns_same (pay_first (does a)) (paid_same (does a) (act_same a)) (suc t.steps) m us t) (signals_same false)
      act_same (programs.goto a) m ts s = seeks_same false (pay_first (does a)) (paid_same (does a) (act_same a)) (suc s.steps) m ts s
      act_same (programs.gopast a) m ts s = seeks_same true (pay_first (does a)) (paid_same (does a) (act_same a)) (suc s.steps) m ts s
      act_same (programs.backwards a) m ts s =
          let inside : State → Ending = λ b. after (pay_first (does a) Backward b) backwards_end (Signals false) in
          then_same (backwards_from s) (backwards_from (touching ts s)) inside (at_difference_same (length s.text) s.beyond ts (record s { left = s.cursor }))
          (λ us b. after_same _ _ backwards_end (Signals false) backwards_end (Signals false) (paid_same (does a) (act_same a) Backward us b) (λ vs t. at_place_same t.left vs t) (signals_same false))
      act_same (programs.setlimit a b) m ts s = limited_same (pay_first (does a)) (pay_first (does b)) (paid_same (does a) (act_same a)) (paid_same (does b) (act_same b)) m ts s
      act_same (programs.call i) m ts s = blind i m ts s
      act_same (programs.search k strings entries) m ts s = search_same k entries strings m ts s
      act_same (programs.among k before bodies) m ts s =
          let chosen : State → Ending = λ t. with_group (choice k t) t (λ g. run.nth_does classes call bodies g m t) in
          after_same _ _ chosen (Signals false) chosen (Signals false) (in_turn_same before m ts s)
          (λ us t. chosen_same (choice k t) us t (λ g. run.nth_does classes call bodies g m t) (λ g. run.nth_does classes call bodies g m (touching us t)) (λ g. nth_same bodies g m us t))
          (signals_same false)

      in_turn_same : (cs : programs.Nodes) (m : Mode) → Blind (run.in_turn classes call cs m)
      in_turn_same programs.no_commands m ts s = (ts, refl)
      in_turn_same (programs.command c cs) m ts s = then_same _ _ (run.in_turn classes call cs m) (paid_same (does c) (act_same c) m ts s) (in_turn_same cs m)

      nth_same : (cs : programs.Nodes) (g : ℕ) (m : Mode) → Blind (run.nth_does classes call cs g m)
      nth_same programs.no_commands g m ts s = (ts, refl)
      nth_same (programs.command c cs) zero m ts s = paid_same (does c) (act_same c) m ts s
      nth_same (programs.command c cs) (suc g) m ts s = nth_same cs g m ts s

body_same : (d : programs.Node → Doing) → ((c : programs.Node) (m : Mode) → Blind (d c m)) → (i : ℕ) (o : Option programs.Routine) (m : Mode) → Blind (run.body_does d i o m)
body_same d h i None m ts s = (ts, refl)
body_same d h i (Some r) m ts s =
    let begun = enter i r.amongs s in
    after_same (d r.body m begun) (d r.body m (touching (with_touch (Entered i) ts) begun)) _ _ _ _ (h r.body m (with_touch (Entered i) ts) begun) (λ us t. (us, refl)) (λ us t. (us, refl))

calls_same : (p : programs.Program) (levels i : ℕ) (m : Mode) → Blind (run.calls p levels i m)
calls_same p zero i m ts s = (ts, refl)
calls_same p (suc n) i m ts s =
    body_same (run.does p.groupings (run.calls p n)) (λ c. paid_same (run.act p.groupings (run.calls p n) c) (act_same (run.calls p n) (calls_same p n) p.groupings c)) i (slice_get p.routines i) m ts s

outcome_same : (e e' : Ending) → Same e e' → outcome_at e' ≡ outcome_at e
outcome_same (Signals b s) e' h = ap outcome_at h.1
outcome_same (Stops fault s) e' h = ap outcome_at h.1

used_same : (limit : ℕ) (e e' : Ending) → Same e e' → used_at limit e' ≡ used_at limit e
used_same limit (Signals b s) e' h = ap (used_at limit) h.1
used_same limit (Stops faults.Steps s) e' h = ap (used_at limit) h.1
used_same limit (Stops fault s) e' h = ap (used_at limit) h.1

-- a run of a program of a script, from its beginning but for what was touched
module _ (p : programs.Program) (script : Source) (word : List ℕ) (limit : ℕ) (touched : List Touch) (state : State) (is : p ≡ numbered_script script) (begun : state ≡ record (start p word limit) { touched = touched }) where
  abbrev ends : State → Ending
  ends = run.calls p 32 p.external Forward

  as_untouched : Same (ends (start p word limit)) (ends state)
  as_untouched = subst (λ s. Same (ends (start p word limit)) (ends s)) (sym begun) (calls_same p 32 p.external Forward touched (start p word limit))

  pub outcome_unread : outcome_at (ends state) ≡ run_of script word limit
  unfolding run_of
  outcome_unread = outcome_same _ _ as_untouched ∙ ap outcome_at (same_run p script word limit (start p word limit) is refl)

  pub used_unread : used_at limit (ends state) ≡ used_of script word limit
  unfolding used_of
  used_unread = used_same limit _ _ as_untouched ∙ ap (used_at limit) (same_run p script word limit (start p word limit) is refl)
