-- The recorded events give the text and, but for tests of groupings, the touches: each command keeps this.
use Rattle.std.proofs.Common.{◌≡◌, ℕ, zero, suc, ◌+◌, ◌-◌, Bool, true, false, List, [], ◌∷◌, ◌++◌, length, Option, Some, None, Ok, Err, refl, sym, ap, subst, ◌∙◌}
use Rattle.std.specs.Prelude.{ℤ, ◌&&◌, ◌||◌, cond, nat_le, nat_lt, nat_eq, if◌then◌else◌, slice_get, slice_index_or, slice_set, take}
use Rattle.std.specs.List.{filter, list_any, splice, starts_with}
use Rattle.std.proofs.lemmas.Bool.{true≢false}
use Rattle.std.proofs.lemmas.List.Elements.{filter-append}
use Rattle.std.proofs.lemmas.List.{append-nil}
use Rattle.sbl_ast.specs.declared.tree.Assignment.{Assignment}
use Rattle.sbl_ast.specs.declared.tree.Comparison.{Comparison}
use Rattle.sbl_ast.specs.declared.tree.Count.{Count}
use Rattle.sbl_ast.specs.declared.tree.Count.TheVariants as counts
use Rattle.sbl_ast.specs.declared.tree.DeclarationKind.TheVariants as kinds
use Rattle.sbl_ast.specs.declared.tree.Joiner.{Joiner}
use Rattle.sbl_ast.specs.declared.tree.Joiner.TheVariants.{Or, And}
use Rattle.sbl_ast.specs.declared.tree.Move.{Move}
use Rattle.sbl_ast.specs.declared.tree.Move.TheVariants as moves
use Rattle.sbl_ast.specs.declared.tree.Naming.{Naming}
use Rattle.sbl_ast.specs.declared.tree.Naming.TheVariants as namings
use Rattle.sbl_ast.specs.declared.tree.Prefix.{Prefix}
use Rattle.sbl_ast.specs.declared.tree.Prefix.TheVariants as prefixes
use Rattle.sbl_ast.specs.declared.tree.Simple.{Simple}
use Rattle.sbl_ast.specs.declared.tree.Simple.TheVariants as simples
use Rattle.sbl_ast.specs.declared.tree.Splice.{Splice}
use Rattle.sbl_ast.specs.declared.tree.Splice.TheVariants as splices
use Rattle.sbl_ast.specs.Order.{in_order}
use Rattle.sbl_ast.specs.Tree as trees
use Rattle.sbl_ast.specs.Tree.{bracket, simple_, literal_, name_, non_, prefixed, counted, move_, named, splice_, setlimit_, assign_, compare_, compare_values_, among_, no_rows, row, no_others, joined, no_starter, starter, bare, group}
use Rattle.sbl_ast.specs.declared.mode.Mode.{Mode}
use Rattle.sbl_ast.specs.declared.mode.Mode.TheVariants.{Forward, Backward}
use Rattle.sbl_semantics.specs.Fitting.{read_as, ahead_at}
use Rattle.sbl_semantics.specs.Items.{DeclaredNames, Body, place_of, is_member, known_in, char_class_of, classes_after, body_named}
use Rattle.sbl_semantics.specs.Regions.{among_at, number_after, number_after_rows, number_after_others, number_after_starter, first, first_rows, first_others, waits, waits_others}
use Rattle.sbl_semantics.specs.Landmarks.{Among, mode_under}
use Rattle.sbl_semantics.specs.declared.cursor.SavedCursor.{SavedCursor}
use Rattle.sbl_semantics.specs.declared.limits.Limits.{Limits}
use Rattle.sbl_semantics.specs.declared.touch.Touch.{Touch}
use Rattle.sbl_semantics.specs.declared.touch.Touch.TheVariants.{Entered, Searched, Tested}
use Rattle.sbl_semantics.specs.Touches.{same_touch, with_touch}
use Rattle.sbl_semantics.specs.Events.{Event', Enters, Leaves, Searches, Finds, Puts}
use Rattle.sbl_semantics.specs.inside.EventParts.{with_event}
use Rattle.sbl_semantics.specs.Moves.{match, one_of, touch_grouping, next, hop, at_mark, to_mark}
use Rattle.sbl_semantics.specs.inside.MoveParts.{next_is}
use Rattle.sbl_semantics.specs.Numbers.{Value, continue_with, natural, with_value, integer_at}
use Rattle.sbl_semantics.specs.Control.{turns, times, count_of, seeks, limits, restore_limit, limit_here, limit_back, backwards_from, backwards_end, with_group, back_in, enter, leave, pay_first}
use Rattle.sbl_semantics.specs.inside.ControlParts.{end_search}
use Rattle.sbl_semantics.specs.Choices.{choice, take_none, take_string, touch_among}
use Rattle.sbl_semantics.specs.inside.ChoiceParts.{choose}
use Rattle.sbl_semantics.specs.Slices.{is_slice, replace_slice, replace, keep, insert_string, put_in}
use Rattle.sbl_semantics.specs.State.{State, Ending, Signals, Stops, Doing, bound_of, ahead, room, after, then_on, pay, at_place, at_difference, to_limit, saved_cursor, put_back, step_over, place_after, note_event}
use Rattle.sbl_semantics.specs.Meaning as meaning
use Rattle.sbl_semantics.specs.inside.RegionRuns as regions
use Rattle.sbl_semantics.proofs.ByLandmarks.{telling_is}
use Rattle.sbl_semantics.specs.inside.MeaningParts as parts
use Rattle.sbl_semantics.specs.Meaning.{Offer, prefixed_does, counted_does, joined_does, limited_does, simple_does, moved_does, assigned_does, compared_does, named_does, edited_does, takes, try_each, search}
use Rattle.sbl_semantics.specs.inside.MeaningParts.{begins}
use Rattle.sbl_semantics.specs.Outcome.{Stem, outcome_at, touched_at, run_of, events_at, events_in, events_of}
use Rattle.sbl_machine.specs.Why.{text_after, text_after_one, PutsGiveTheStem, touches_after, touches_after_one, is_no_test, EventsTouch}
use Rattle.sbl_machine.proofs.WhyLaw.{events_change_nothing}
use Rattle.sbl_ast.specs.Source.{Source}

text_last : (text : List ℕ) (xs : List Event') (x : Event') → text_after text (xs ++ (x ∷ [])) ≡ text_after_one (text_after text xs) x
text_last text [] x = refl
text_last text (y ∷ ys) x = text_last (text_after_one text y) ys x

touches_last : (touches : List Touch) (xs : List Event') (x : Event') → touches_after touches (xs ++ (x ∷ [])) ≡ touches_after_one (touches_after touches xs) x
touches_last touches [] x = refl
touches_last touches (y ∷ ys) x = touches_last (touches_after_one touches y) ys x

-- ---- touches without the tests of groupings

any_kept : (y : Touch) → is_no_test y ≡ true → (ts : List Touch) → list_any (same_touch y) (filter is_no_test ts) ≡ list_any (same_touch y) ts
any_kept y e [] = refl
any_kept (Entered i) e (Entered j ∷ ts) = ap (λ b. same_touch (Entered i) (Entered j) || b) (any_kept (Entered i) e ts)
any_kept (Entered i) e (Searched j k ∷ ts) = any_kept (Entered i) e ts
any_kept (Entered i) e (Tested g ∷ ts) = any_kept (Entered i) e ts
any_kept (Searched i k) e (Entered j ∷ ts) = any_kept (Searched i k) e ts
any_kept (Searched i k) e (Searched j l ∷ ts) = ap (λ b. same_touch (Searched i k) (Searched j l) || b) (any_kept (Searched i k) e ts)
any_kept (Searched i k) e (Tested g ∷ ts) = any_kept (Searched i k) e ts
any_kept (Tested g) e ts = absurd (true≢false (sym e))

with_step : (b : Bool) (y : Touch) (ts : List Touch) → is_no_test y ≡ true → (if b then filter is_no_test ts else filter is_no_test ts ++ (y ∷ [])) ≡ filter is_no_test (if b then ts else ts ++ (y ∷ []))
with_step true y ts e = refl
with_step false y ts e = sym (filter-append is_no_test ts (y ∷ []) ∙ ap (λ c. filter is_no_test ts ++ cond c (y ∷ []) []) e)

with_kept : (y : Touch) → is_no_test y ≡ true → (ts : List Touch) → with_touch y (filter is_no_test ts) ≡ filter is_no_test (with_touch y ts)
with_kept y e ts = ap (λ b. if b then filter is_no_test ts else filter is_no_test ts ++ (y ∷ [])) (any_kept y e ts) ∙ with_step (list_any (same_touch y) ts) y ts e

test_step : (b : Bool) (g : ℕ) (ts : List Touch) → filter is_no_test ts ≡ filter is_no_test (if b then ts else ts ++ (Tested g ∷ []))
test_step true g ts = refl
test_step false g ts = sym (filter-append is_no_test ts (Tested g ∷ []) ∙ append-nil (filter is_no_test ts))

module _ (word : List ℕ) where
  -- the events so far give the text, and the touches but for tests
  abbrev IsRecorded : State → Type 0
  IsRecorded s = (xs : List Event') × (s.events ≡ Some xs) × (text_after word xs ≡ s.text) × (touches_after [] xs ≡ filter is_no_test s.touched)

  abbrev RecordedAt : Ending → Type 0
  RecordedAt (Signals b s) = IsRecorded s
  RecordedAt (Stops fault s) = IsRecorded s

  abbrev Keeps : (State → Ending) → Type 0
  Keeps f = (s : State) → IsRecorded s → RecordedAt (f s)

  abbrev KeepsIn : Doing → Type 0
  KeepsIn d = (m : Mode) → Keeps (d m)

  tell_keeps : (x : Event') (s : State) → ((t : List ℕ) → text_after_one t x ≡ t) → ((ts : List Touch) → touches_after_one ts x ≡ ts) → IsRecorded s → IsRecorded (note_event x s)
  tell_keeps x s same none h = (h.0 ++ (x ∷ []), ap (with_event x) h.1, text_last word h.0 x ∙ same (text_after word h.0) ∙ h.2, touches_last [] h.0 x ∙ none (touches_after [] h.0) ∙ h.3)

  touch_keeps : (x : Event') (y : Touch) (s : State) → ((t : List ℕ) → text_after_one t x ≡ t) → ((ts : List Touch) → touches_after_one ts x ≡ with_touch y ts) → is_no_test y ≡ true → IsRecorded s → IsRecorded (note_event x (record s { touched = with_touch y s.touched }))
  touch_keeps x y s same one e h = (
    h.0 ++ (x ∷ []),
    ap (with_event x) h.1,
    text_last word h.0 x ∙ same (text_after word h.0) ∙ h.2,
    touches_last [] h.0 x ∙ one (touches_after [] h.0) ∙ ap (with_touch y) h.3 ∙ with_kept y e s.touched,
  )

  test_keeps : (g : ℕ) (s : State) → IsRecorded s → IsRecorded (touch_grouping g s)
  test_keeps g s h = (h.0, h.1, h.2, h.3 ∙ test_step (list_any (same_touch (Tested g)) s.touched) g s.touched)

  put_keeps : (from to : ℕ) (cs : List ℕ) (s : State) → IsRecorded s → IsRecorded (note_event (Puts from to cs) (record s { text = splice s.text from to cs }))
  put_keeps from to cs s h = (h.0 ++ (Puts from to cs ∷ []), ap (with_event (Puts from to cs)) h.1, text_last word h.0 (Puts from to cs) ∙ ap (λ t. splice t from to cs) h.2, touches_last [] h.0 (Puts from to cs) ∙ h.3)

  -- ---- one after another

  after_keeps : (e : Ending) (f g : State → Ending) → RecordedAt e → Keeps f → Keeps g → RecordedAt (after e f g)
  after_keeps (Signals true s) f g h i j = i s h
  after_keeps (Signals false s) f g h i j = j s h
  after_keeps (Stops fault s) f g h i j = h

  signals_keep : (b : Bool) → Keeps (Signals b)
  signals_keep b s h = h

  then_keeps : (e : Ending) (f : State → Ending) → RecordedAt e → Keeps f → RecordedAt (then_on e f)
  then_keeps e f h i = after_keeps e f (Signals false) h i (signals_keep false)

  if_keeps : (b : Bool) (x y : Ending) → RecordedAt x → RecordedAt y → RecordedAt (if b then x else y)
  if_keeps true x y h i = h
  if_keeps false x y h i = i

  given_keeps : (v : Value) (s : State) (go : ℤ → Ending) → IsRecorded s → ((z : ℤ) → RecordedAt (go z)) → RecordedAt (continue_with v s go)
  given_keeps (Ok z) s go h i = i z
  given_keeps (Err fault) s go h i = h

  pay_keeps : (c : ℕ) → Keeps (pay c)
  pay_keeps zero s h = h
  pay_keeps (suc c) s h = h

  paid_keeps : (d : Doing) → KeepsIn d → KeepsIn (pay_first d)
  paid_keeps d i m s h = then_keeps (pay s.steps s) (d m) (pay_keeps s.steps s h) (i m)

  -- ---- the cursor at a place

  place_keeps : (p : ℕ) → Keeps (at_place p)
  place_keeps p s h = if_keeps (nat_le p (length s.text)) _ _ h h

  difference_keeps : (a b : ℕ) → Keeps (at_difference a b)
  difference_keeps a b s h = if_keeps (nat_lt a b) _ _ h (place_keeps (a - b) s h)

  to_limit_keeps : (m : Mode) → Keeps (to_limit m)
  to_limit_keeps Forward s h = difference_keeps (length s.text) s.beyond s h
  to_limit_keeps Backward s h = place_keeps s.left s h

  back_keeps : (m : Mode) (from : SavedCursor) → Keeps (put_back m from)
  back_keeps Forward from s h = place_keeps from.cursor s h
  back_keeps Backward from s h = difference_keeps (length s.text + from.beyond + from.cursor) (s.beyond + from.length) s h

  over_keeps : (m : Mode) (i : ℕ) → Keeps (step_over m i)
  over_keeps Forward i s h = place_keeps (s.cursor + i) s h
  over_keeps Backward i s h = difference_keeps s.cursor i s h

  place_after_keeps : (m : Mode) (from : SavedCursor) (i : ℕ) → Keeps (place_after m from i)
  place_after_keeps m from i s h = then_keeps _ (step_over m i) (back_keeps m from s h) (over_keeps m i)

  next_keeps : (m : Mode) → Keeps (next m)
  next_keeps Forward s h = if_keeps (nat_lt 0 (room Forward s)) _ _ h h
  next_keeps Backward s h = if_keeps (nat_lt 0 (room Backward s)) _ _ h h

  -- ---- the slice and the text

  replace_keeps : (cs : List ℕ) → Keeps (replace cs)
  replace_keeps cs s h = if_keeps (is_slice s) _ _ (if_keeps (nat_le (length s.text + length cs - (s.ket - s.bra)) 1024) _ _ (put_keeps s.bra s.ket cs s h) h) h

  keep_keeps : (x : ℕ) → Keeps (keep x)
  keep_keeps x s h = if_keeps (is_slice s) _ _ h h

  put_in_keeps : (right : Bool) (cs : List ℕ) → Keeps (put_in right cs)
  put_in_keeps right cs s h = if_keeps (nat_le (s.cursor + s.beyond) (length s.text)) _ _ (if_keeps (nat_le (length s.text + length cs) 1024) _ _ (put_keeps s.cursor s.cursor cs s h) h) h

  edited_keeps : (x : Splice) (cs : List ℕ) (m : Mode) → Keeps (edited_does x cs m)
  edited_keeps splices.Replace cs m s h = replace_keeps cs s h
  edited_keeps splices.InsertSign cs Backward s h = put_in_keeps false cs s h
  edited_keeps splices.Insert cs Backward s h = put_in_keeps false cs s h
  edited_keeps splices.Attach cs Forward s h = put_in_keeps false cs s h
  edited_keeps _ cs _ s h = put_in_keeps true cs s h

  named_keeps : (ns : DeclaredNames) (x : Naming) (y : List ℕ) (m : Mode) → Keeps (named_does ns x y m)
  named_keeps ns namings.Arrow y m s h = keep_keeps (place_of (ns kinds.Strings) y) s h
  named_keeps ns _ y m s h = h

  -- ---- moving and testing

  match_keeps : (cs : List ℕ) (m : Mode) → Keeps (match cs m)
  match_keeps cs Forward s h = if_keeps (starts_with nat_eq (ahead Forward s) (read_as Forward cs)) _ _ h h
  match_keeps cs Backward s h = if_keeps (starts_with nat_eq (ahead Backward s) (read_as Backward cs)) _ _ h h

  class_keeps : (wanted : Bool) (has : ℕ → Bool) (m : Mode) → Keeps (one_of wanted has m)
  class_keeps wanted has Forward s h = if_keeps (next_is wanted has (slice_get (ahead Forward s) 0)) _ _ h h
  class_keeps wanted has Backward s h = if_keeps (next_is wanted has (slice_get (ahead Backward s) 0)) _ _ h h

  hop_keeps : (o : Option ℕ) (m : Mode) → Keeps (hop o m)
  hop_keeps None m s h = h
  hop_keeps (Some i) Forward s h = if_keeps (nat_le i (room Forward s)) _ _ h h
  hop_keeps (Some i) Backward s h = if_keeps (nat_le i (room Backward s)) _ _ h h

  at_mark_keeps : (o : Option ℕ) → Keeps (at_mark o)
  at_mark_keeps None s h = h
  at_mark_keeps (Some i) s h = h

  to_mark_keeps : (o : Option ℕ) (m : Mode) → Keeps (to_mark o m)
  to_mark_keeps None m s h = h
  to_mark_keeps (Some i) Forward s h = if_keeps (nat_le s.cursor i && nat_le (i + s.beyond) (length s.text)) _ _ h h
  to_mark_keeps (Some i) Backward s h = if_keeps (nat_le s.left i && nat_le i s.cursor) _ _ h h

  moved_keeps : (x : Move) (v : Value) → KeepsIn (moved_does x v)
  moved_keeps moves.Hop v m s h = given_keeps v s _ h (λ z. hop_keeps (natural z) m s h)
  moved_keeps moves.AtMark v m s h = given_keeps v s _ h (λ z. at_mark_keeps (natural z) s h)
  moved_keeps moves.ToMark v m s h = given_keeps v s _ h (λ z. to_mark_keeps (natural z) m s h)

  assigned_keeps : (x : ℕ) (o : Assignment) (v : Value) (s : State) → IsRecorded s → RecordedAt (assigned_does x o v s)
  assigned_keeps x o v s h = given_keeps (with_value v (meaning.assigned_value o (integer_at x s))) s (λ z. Signals true (record s { integers = slice_set s.integers x z })) h (λ z. h)

  compared_keeps : (o : Comparison) (v w : Value) (s : State) → IsRecorded s → RecordedAt (compared_does v o w s)
  compared_keeps o v w s h = given_keeps v s (λ x. continue_with w s (λ y. Signals (meaning.is_so o x y) s)) h (λ x. given_keeps w s (λ y. Signals (meaning.is_so o x y) s) h (λ y. h))

  simple_keeps : (d : Doing) → KeepsIn d → (x : Simple) → KeepsIn (simple_does d x)
  simple_keeps d i simples.Substring m s h = i m s h
  simple_keeps d i simples.LeftBracket Forward s h = h
  simple_keeps d i simples.LeftBracket Backward s h = h
  simple_keeps d i simples.RightBracket Forward s h = h
  simple_keeps d i simples.RightBracket Backward s h = h
  simple_keeps d i simples.Next m s h = next_keeps m s h
  simple_keeps d i simples.ToLimit m s h = to_limit_keeps m s h
  simple_keeps d i simples.AtLimit Forward s h = h
  simple_keeps d i simples.AtLimit Backward s h = h
  simple_keeps d i simples.Delete m s h = replace_keeps [] s h
  simple_keeps d i simples.True m s h = h
  simple_keeps d i simples.False m s h = h

  -- ---- commands with commands inside

  turns_keep : (c : Doing) → KeepsIn c → (n : ℕ) (m : Mode) → Keeps (turns n c m)
  turns_keep c i zero m s h = h
  turns_keep c i (suc n) m s h = after_keeps (c m s) (turns n c m) (put_back m (saved_cursor s)) (i m s h) (turns_keep c i n m) (back_keeps m (saved_cursor s))

  times_keep : (c : Doing) → KeepsIn c → (n : ℕ) (m : Mode) → Keeps (times n c m)
  times_keep c i zero m s h = h
  times_keep c i (suc n) m s h = after_keeps (c m s) (times n c m) (Signals false) (i m s h) (times_keep c i n m) (signals_keep false)

  found_keeps : (past : Bool) (m : Mode) (s : State) → Keeps (end_search past m s)
  found_keeps true m s t h = h
  found_keeps false m s t h = back_keeps m (saved_cursor s) t h

  seeks_keep : (past : Bool) (c : Doing) → KeepsIn c → (n : ℕ) (m : Mode) → Keeps (seeks n past c m)
  seeks_keep past c i zero m s h = h
  seeks_keep past c i (suc n) m s h =
      after_keeps (c m s) (end_search past m s) (λ f. then_on (put_back m (saved_cursor s) f) (λ b. after (next m b) (seeks n past c m) (Signals false))) (i m s h) (found_keeps past m s)
      (λ f j. then_keeps (put_back m (saved_cursor s) f) (λ b. after (next m b) (seeks n past c m) (Signals false)) (back_keeps m (saved_cursor s) f j)
      (λ b k. after_keeps (next m b) (seeks n past c m) (Signals false) (next_keeps m b k) (seeks_keep past c i n m) (signals_keep false)))

  prefixed_keeps : (x : Prefix) (c : Doing) → KeepsIn c → KeepsIn (prefixed_does x c)
  prefixed_keeps prefixes.Not c i m s h = after_keeps (c m s) (Signals false) (put_back m (saved_cursor s)) (i m s h) (signals_keep false) (back_keeps m (saved_cursor s))
  prefixed_keeps prefixes.Test c i m s h = after_keeps (c m s) (put_back m (saved_cursor s)) (Signals false) (i m s h) (back_keeps m (saved_cursor s)) (signals_keep false)
  prefixed_keeps prefixes.Try c i m s h = after_keeps (c m s) (Signals true) (put_back m (saved_cursor s)) (i m s h) (signals_keep true) (back_keeps m (saved_cursor s))
  prefixed_keeps prefixes.Do c i m s h = after_keeps (c m s) (put_back m (saved_cursor s)) (put_back m (saved_cursor s)) (i m s h) (back_keeps m (saved_cursor s)) (back_keeps m (saved_cursor s))
  prefixed_keeps prefixes.Fail c i m s h = after_keeps (c m s) (Signals false) (Signals false) (i m s h) (signals_keep false) (signals_keep false)
  prefixed_keeps prefixes.Repeat c i m s h = turns_keep c i (suc s.steps) m s h
  prefixed_keeps prefixes.GoTo c i m s h = seeks_keep false c i (suc s.steps) m s h
  prefixed_keeps prefixes.GoPast c i m s h = seeks_keep true c i (suc s.steps) m s h
  prefixed_keeps prefixes.Backwards c i m s h =
      then_keeps (backwards_from s) (λ b. after (c Backward b) backwards_end (Signals false)) (to_limit_keeps Forward (record s { left = s.cursor }) h)
      (λ b j. after_keeps (c Backward b) backwards_end (Signals false) (i Backward b j) (λ t k. place_keeps t.left t k) (signals_keep false))

  counted_keeps : (x : Count) (v : Value) (c : Doing) → KeepsIn c → KeepsIn (counted_does x v c)
  counted_keeps counts.Loop v c i m s h = given_keeps v s _ h (λ z. times_keep c i (count_of z) m s h)
  counted_keeps counts.AtLeast v c i m s h =
      after_keeps (continue_with v s (λ z. times (count_of z) c m s)) (λ t. turns (suc t.steps) c m t) (Signals false) (given_keeps v s _ h (λ z. times_keep c i (count_of z) m s h))
      (λ t j. turns_keep c i (suc t.steps) m t j) (signals_keep false)

  joined_keeps : (j : Joiner) (a b : Doing) → KeepsIn a → KeepsIn b → KeepsIn (joined_does j a b)
  joined_keeps Or a b i j m s h =
      after_keeps (a m s) (Signals true) (λ f. then_on (put_back m (saved_cursor s) f) (b m)) (i m s h) (signals_keep true)
      (λ f k. then_keeps (put_back m (saved_cursor s) f) (b m) (back_keeps m (saved_cursor s) f k) (j m))
  joined_keeps And a b i j m s h =
      after_keeps (a m s) (λ f. then_on (put_back m (saved_cursor s) f) (b m)) (Signals false) (i m s h)
      (λ f k. then_keeps (put_back m (saved_cursor s) f) (b m) (back_keeps m (saved_cursor s) f k) (j m)) (signals_keep false)

  within_keeps : (m : Mode) (from : Limits) (b : Doing) → KeepsIn b → Keeps (λ u. restore_limit m from (b m u))
  within_keeps Forward from b j s h = after_keeps (b Forward s) (λ t. Signals true (limit_back Forward from t)) (λ t. Signals false (limit_back Forward from t)) (j Forward s h) (λ t k. k) (λ t k. k)
  within_keeps Backward from b j s h = after_keeps (b Backward s) (λ t. Signals true (limit_back Backward from t)) (λ t. Signals false (limit_back Backward from t)) (j Backward s h) (λ t k. k) (λ t k. k)

  here_keeps : (m : Mode) (from : SavedCursor) → Keeps (λ t. put_back m from (limit_here m t))
  here_keeps Forward from t h = back_keeps Forward from (limit_here Forward t) h
  here_keeps Backward from t h = back_keeps Backward from (limit_here Backward t) h

  limited_keeps : (a b : Doing) → KeepsIn a → KeepsIn b → KeepsIn (limited_does a b)
  limited_keeps a b i j m s h =
      let within : State → Ending = λ u. restore_limit m (limits s) (b m u) in
      after_keeps (a m s) (λ t. then_on (put_back m (saved_cursor s) (limit_here m t)) within) (Signals false) (i m s h)
      (λ t k. then_keeps (put_back m (saved_cursor s) (limit_here m t)) within (here_keeps m (saved_cursor s) t k) (within_keeps m (limits s) b j)) (signals_keep false)

  begins_keep : (waits : Bool) (d b : Doing) → KeepsIn d → KeepsIn b → KeepsIn (begins waits d b)
  begins_keep true d b i j m s h = h
  begins_keep false d b i j m s h = after_keeps (pay_first d m s) (b m) (Signals false) (paid_keeps d i m s h) (j m) (signals_keep false)

  chosen_keeps : (o : Option ℕ) (s : State) (go : ℕ → Ending) → IsRecorded s → ((g : ℕ) → RecordedAt (go g)) → RecordedAt (with_group o s go)
  chosen_keeps None s go h i = h
  chosen_keeps (Some g) s go h i = i g

  -- ---- searches

  module _ (call : List ℕ → Doing) (calls_keep : (x : List ℕ) → KeepsIn (call x)) where
    condition_keeps : (o : Option (List ℕ)) → KeepsIn (parts.condition_does call o)
    condition_keeps None m s h = h
    condition_keeps (Some x) m s h = paid_keeps (call x) (calls_keep x) m s h

    take_keeps : (k : ℕ) (o : Option Offer) (m : Mode) (from : State) (go : State → Ending) → Keeps go → Keeps (λ s. takes call k o m from s go)
    take_keeps k None m from go i s h = i s h
    take_keeps k (Some o) m from go i s h =
        let to = place_after m (saved_cursor from) (length o.string) in
        let to_keeps = place_after_keeps m (saved_cursor from) (length o.string) in
        let end : State → Ending = λ c. Signals true (take_string k (length o.string) o.group c) in
        let taken : State → Ending = λ b. then_on (to b) end in
        then_keeps (to s) (λ a. after (parts.condition_does call o.condition m a) taken go) (to_keeps s h)
        (λ a j. after_keeps (parts.condition_does call o.condition m a) taken go (condition_keeps o.condition m a j)
        (λ b k'. then_keeps (to b) end (to_keeps b k') (λ c l. tell_keeps (Finds k (Some (length o.string))) (choose k (Some o.group) c) (λ t. refl) (λ t. refl) l)) i)

    tried_keeps : (k : ℕ) (os : List Offer) (r m : Mode) (from : State) (x : List ℕ) (l : ℕ) → Keeps (try_each call k os r m from x l)
    tried_keeps k os r m from x zero s h = tell_keeps (Finds k None) (choose k None s) (λ t. refl) (λ t. refl) h
    tried_keeps k os r m from x (suc l) s h = take_keeps k (parts.offering r (take l x) os) m from (try_each call k os r m from x l) (tried_keeps k os r m from x l) s h

    search_keeps : (a : Among) → KeepsIn (search call a)
    search_keeps a m s h =
        let t = touch_among a.number m s in
        let x = ahead_at a.mode t.text t.cursor (bound_of m t) in
        tried_keeps a.number (meaning.offers 0 a.groups) a.mode m t x (suc (length x)) t (touch_keeps (Searches s.routine a.number m s.cursor) (Searched s.routine a.number) s (λ t. refl) (λ t. refl) refl h)

  -- ---- the commands of a script

  module _ (ns : DeclaredNames) (class : List ℕ → ℕ → Bool) (call : List ℕ → Doing) (go : (x : List ℕ) → KeepsIn (call x)) where
    ahead_keeps : (n : Option Among) → KeepsIn (parts.search_ahead ns class call n)
    ahead_keeps None m s h = h
    ahead_keeps (Some a) m s h = search_keeps call go a m s h

    name_keeps : (x : List ℕ) → KeepsIn (meaning.name_does ns class call x)
    name_keeps x m s h =
        if_keeps (is_member (ns kinds.Strings) x) _ _ (match_keeps (slice_index_or s.strings (place_of (ns kinds.Strings) x) []) m s h)
        (if_keeps (is_member (ns kinds.Booleans) x) _ _ h
        (if_keeps (is_member (ns kinds.Groupings) x) _ _ (class_keeps true (class x) m (touch_grouping (place_of (ns kinds.Groupings) x) s) (test_keeps (place_of (ns kinds.Groupings) x) s h)) (go x m s h)))

    abbrev does : Mode → ℕ → Bool → Option Among → trees.Command → Doing
    does = regions.act ns class call

    mutual
      act_keeps : (t : trees.Command) (r : Mode) (i : ℕ) (w : Bool) (x : Option Among) → KeepsIn (does r i w x t)
      act_keeps (bracket rs) r i w x m s h = rows_keep rs r i w x m s h
      act_keeps (simple_ y) r i w x m s h = simple_keeps (parts.search_ahead ns class call x) (ahead_keeps x) y m s h
      act_keeps (literal_ q) r i w x m s h = match_keeps q.value m s h
      act_keeps (name_ y) r i w x m s h = name_keeps y m s h
      act_keeps (non_ b y) r i w x m s h = class_keeps false (class y) m (touch_grouping (place_of (ns kinds.Groupings) y) s) (test_keeps (place_of (ns kinds.Groupings) y) s h)
      act_keeps (prefixed y c) r i w x m s h = prefixed_keeps y (pay_first (does (mode_under y r) i w x c)) (paid_keeps (does (mode_under y r) i w x c) (act_keeps c (mode_under y r) i w x)) m s h
      act_keeps (counted y e c) r i w x m s h = counted_keeps y (meaning.worth ns e m s) (pay_first (does r i w x c)) (paid_keeps (does r i w x c) (act_keeps c r i w x)) m s h
      act_keeps (move_ y e) r i w x m s h = moved_keeps y (meaning.worth ns e m s) m s h
      act_keeps (named y z) r i w x m s h = named_keeps ns y z m s h
      act_keeps (splice_ y a) r i w x m s h = edited_keeps y (meaning.text ns a s) m s h
      act_keeps (setlimit_ b c) r i w x m s h =
          let d = does r i w (first r c (number_after b i) x) b in
          let e = does r (number_after b i) (waits b w) x c in
          limited_keeps (pay_first d) (pay_first e) (paid_keeps d (act_keeps b r i w (first r c (number_after b i) x))) (paid_keeps e (act_keeps c r (number_after b i) (waits b w) x)) m s h
      act_keeps (assign_ y o e) r i w x m s h = assigned_keeps (place_of (ns kinds.Integers) y) o (meaning.worth ns e m s) s h
      act_keeps (compare_ y o e) r i w x m s h = compared_keeps o (Ok (integer_at (place_of (ns kinds.Integers) y) s)) (meaning.worth ns e m s) s h
      act_keeps (compare_values_ e o f) r i w x m s h = compared_keeps o (meaning.worth ns e m s) (meaning.worth ns f m s) s h
      act_keeps (among_ st gs) r i w x m s h =
          let begun = begins w (search call (among_at r i gs)) (regions.starter_does ns class call r (suc i) st) m in
          after_keeps (begun s) (λ t. with_group (choice i t) t (λ g. regions.group_does ns class call r (number_after_starter st (suc i)) gs g m t)) (Signals false)
          (begins_keep w (search call (among_at r i gs)) (regions.starter_does ns class call r (suc i) st) (search_keeps call go (among_at r i gs)) (starter_keeps st r (suc i)) m s h)
          (λ t j. chosen_keeps (choice i t) t _ j (λ g. groups_keep gs r (number_after_starter st (suc i)) g m t j))
          (signals_keep false)

      rows_keep : (rs : trees.Rows) (r : Mode) (i : ℕ) (w : Bool) (x : Option Among) → KeepsIn (regions.rows_do ns class call r i w x rs)
      rows_keep no_rows r i w x m s h = h
      rows_keep (row c os rs) r i w x m s h =
          let x2 = first_rows r rs (number_after_others os (number_after c i)) x in
          let x1 = first_others r os (number_after c i) x2 in
          let d = regions.others_do ns class call r (number_after c i) (waits c w) x2 os (does r i w x1 c) in
          after_keeps (pay_first d m s) (regions.rows_do ns class call r (number_after_others os (number_after c i)) (waits_others os (waits c w)) x rs m) (Signals false)
          (paid_keeps d (others_keep os r (number_after c i) (waits c w) x2 (does r i w x1 c) (act_keeps c r i w x1)) m s h)
          (rows_keep rs r (number_after_others os (number_after c i)) (waits_others os (waits c w)) x m) (signals_keep false)

      others_keep : (os : trees.Others) (r : Mode) (i : ℕ) (w : Bool) (x : Option Among) (d : Doing) → KeepsIn d → KeepsIn (regions.others_do ns class call r i w x os d)
      others_keep no_others r i w x d j m s h = j m s h
      others_keep (joined y c os) r i w x d j m s h =
          let e = does r i w (first_others r os (number_after c i) x) c in
          others_keep os r (number_after c i) (waits c w) x (joined_does y (pay_first d) (pay_first e)) (joined_keeps y (pay_first d) (pay_first e) (paid_keeps d j) (paid_keeps e (act_keeps c r i w (first_others r os (number_after c i) x)))) m s h

      starter_keeps : (st : trees.Starter) (r : Mode) (i : ℕ) → KeepsIn (regions.starter_does ns class call r i st)
      starter_keeps no_starter r i m s h = h
      starter_keeps (starter rs) r i m s h = paid_keeps (regions.rows_do ns class call r i false None rs) (rows_keep rs r i false None) m s h

      groups_keep : (gs : trees.Groups) (r : Mode) (i g : ℕ) → KeepsIn (regions.group_does ns class call r i gs g)
      groups_keep (bare es) r i g m s h = h
      groups_keep (group e es rs gs) r i zero m s h = paid_keeps (regions.rows_do ns class call r i false None rs) (rows_keep rs r i false None) m s h
      groups_keep (group e es rs gs) r i (suc g) m s h = groups_keep gs r (number_after_rows rs i) g m s h

    body_keeps : (x : List ℕ) (b : Option Body) → KeepsIn (regions.body_does ns class call x b)
    body_keeps x None m s h = h
    body_keeps x (Some b) m s h =
        let d = parts.row_does ns class call b.mode b.first b.others in
        let i = place_of (ns kinds.Routines) x in
        let begun = enter i (number_after_others b.others (number_after b.first 0)) s in
        let row = others_keep b.others b.mode (number_after b.first 0) (waits b.first false) None (does b.mode 0 false (first_others b.mode b.others (number_after b.first 0) None) b.first) (act_keeps b.first b.mode 0 false (first_others b.mode b.others (number_after b.first 0) None)) in
        after_keeps (pay_first d m begun) (λ t. Signals true (back_in s.routine s.choices true t)) (λ t. Signals false (back_in s.routine s.choices false t))
        (paid_keeps d row m begun (touch_keeps (Enters i) (Entered i) s (λ t. refl) (λ t. refl) refl h))
        (λ t j. tell_keeps (Leaves true) (record t { choices = s.choices; routine = s.routine }) (λ t. refl) (λ t. refl) j)
        (λ t j. tell_keeps (Leaves false) (record t { choices = s.choices; routine = s.routine }) (λ t. refl) (λ t. refl) j)

  calls_keep : (ns : DeclaredNames) (class : List ℕ → ℕ → Bool) (bodies : List ℕ → Option Body) (levels : ℕ) (x : List ℕ) → KeepsIn (regions.calls ns class bodies levels x)
  calls_keep ns class bodies zero x m s h = h
  calls_keep ns class bodies (suc levels) x m s h = body_keeps ns class (regions.calls ns class bodies levels) (calls_keep ns class bodies levels) x (bodies x) m s h

  stem_of : (e : Ending) (stem : List ℕ) → RecordedAt e → outcome_at e ≡ Stem stem → text_after word (events_at e) ≡ stem
  stem_of (Signals b s) stem h p = let same : s.text ≡ stem = cc in ap (λ o. text_after word (events_in o)) h.1 ∙ h.2 ∙ same
  stem_of (Stops fault s) stem h p = let no : ⊥ = cc in absurd no

  touches_at : (e : Ending) → RecordedAt e → touches_after [] (events_at e) ≡ filter is_no_test (touched_at e)
  touches_at (Signals b s) h = ap (λ o. touches_after [] (events_in o)) h.1 ∙ h.3
  touches_at (Stops fault s) h = ap (λ o. touches_after [] (events_in o)) h.1 ∙ h.3

regions_recorded : (script : Source) (word : List ℕ) (limit : ℕ) → RecordedAt word (regions.ending_with_events script word limit)
unfolding regions.ending_with_events
regions_recorded script word limit =
    let items = in_order script.items in
    let known = known_in items in
    calls_keep word known (char_class_of (classes_after items [])) (body_named items) 32 script.external Forward (record (meaning.start known word limit) { events = Some [] }) ([], refl, refl, refl)

all_recorded : (script : Source) (word : List ℕ) (limit : ℕ) → RecordedAt word (meaning.ending_with_events script word limit)
all_recorded script word limit = subst (RecordedAt word) (sym (telling_is script word limit)) (regions_recorded script word limit)

pub puts_give_the_stem : PutsGiveTheStem
unfolding events_of
puts_give_the_stem script word limit stem p =
    stem_of word (meaning.ending_with_events script word limit) stem (all_recorded script word limit) ((events_change_nothing script word limit).outcome ∙ p)

pub events_touch : EventsTouch
unfolding events_of
events_touch script word limit =
    touches_at word (meaning.ending_with_events script word limit) (all_recorded script word limit)
    ∙ ap (filter is_no_test) (events_change_nothing script word limit).touches
