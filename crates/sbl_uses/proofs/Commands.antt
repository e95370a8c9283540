-- Each command that calls no routine and begins no search is such a part of a run.
use Rattle.std.proofs.Common.{append_assoc, ◌≡◌, ℕ, ◌+◌, ◌-◌, Bool, true, false, List, [], ◌++◌, length, Option, Some, None, refl, sym, ap, ◌∙◌}
use Rattle.std.specs.Prelude.{⊤, ◌&&◌, nat_le, nat_lt, nat_eq, drop, if◌then◌else◌, slice_get, slice_set, take}
use Rattle.std.specs.List.{splice, starts_with}
use Rattle.std.proofs.lemmas.Bool.{true≢false}
use Rattle.sbl_ast.specs.declared.tree.Assignment.{Assignment}
use Rattle.sbl_ast.specs.declared.tree.Comparison.{Comparison}
use Rattle.sbl_ast.specs.declared.tree.DeclarationKind.TheVariants as kinds
use Rattle.sbl_ast.specs.declared.tree.Move.{Move}
use Rattle.sbl_ast.specs.declared.tree.Move.TheVariants as moves
use Rattle.sbl_ast.specs.declared.tree.Naming.{Naming}
use Rattle.sbl_ast.specs.declared.tree.Naming.TheVariants as namings
use Rattle.sbl_ast.specs.declared.tree.Simple.{Simple}
use Rattle.sbl_ast.specs.declared.tree.Simple.TheVariants as simples
use Rattle.sbl_ast.specs.declared.tree.Splice.{Splice}
use Rattle.sbl_ast.specs.declared.tree.Splice.TheVariants as splices
use Rattle.sbl_ast.specs.declared.mode.Mode.{Mode}
use Rattle.sbl_ast.specs.declared.mode.Mode.TheVariants.{Forward, Backward}
use Rattle.sbl_semantics.specs.Fitting.{read_as}
use Rattle.sbl_semantics.specs.Items.{DeclaredNames, Body, place_of}
use Rattle.sbl_semantics.specs.declared.cursor.SavedCursor.{SavedCursor}
use Rattle.sbl_semantics.specs.Events.{Event', Puts}
use Rattle.sbl_semantics.specs.inside.EventParts.{with_event}
use Rattle.sbl_semantics.specs.Moves.{match, one_of, next, hop, at_mark, to_mark, set_mark, set_boolean}
use Rattle.sbl_semantics.specs.inside.MoveParts.{next_is}
use Rattle.sbl_semantics.specs.Numbers.{Value, continue_with, natural, with_value, integer_at}
use Rattle.sbl_semantics.specs.Slices.{is_slice, replace_slice, replace, keep, insert_string, put_in, left_bracket, right_bracket}
use Rattle.sbl_semantics.specs.State.{State, Signals, Stops, Doing, ahead, room, at_place, at_difference, to_limit, put_back, step_over, place_after, move_cursor}
use Rattle.sbl_semantics.specs.Meaning as meaning
use Rattle.sbl_semantics.specs.Meaning.{Offer, prefixed_does, counted_does, joined_does, limited_does, simple_does, moved_does, assigned_does, compared_does, named_does, edited_does, takes, try_each, search}
use Rattle.sbl_semantics.specs.declared.fault.RunFault.{RunFault}
use Rattle.sbl_semantics.specs.declared.fault.RunFault.TheVariants as faults
use Rattle.sbl_uses.specs.Searches.{course}
use Rattle.sbl_uses.proofs.RunParts.{Any_refusal, Ends, Family, Good, GoodIn, Part, PartX, Refused, Some_end, at, forget, given_part, here, here_with, if_part, noted_with, signals_good, stop, stop_with}
use Rattle.sbl_uses.proofs.Onward.{after_x, good_grows, grows_by}

module _ (ns : DeclaredNames) (bodies : List ℕ → Option Body) (r : ℕ) where
  pub conv : (A A' : Ends ns bodies r) (B B' : Refused ns bodies r) (s : State) (run : Family) (most : ℕ) → ((b : Bool) (t : State) (ys : List Event') → A b t ys → A' b t ys) → ((ys : List Event') → B ys → B' ys)
      → PartX ns bodies r A B s run most → PartX ns bodies r A' B' s run most
  conv A A' B B' s run most f g (Signals b t, e, h) = (Signals b t, e, (h.0, h.1, h.2, h.3, h.4, h.5, h.6, h.7, h.8, f b t h.0 h.9))
  conv A A' B B' s run most f g (Stops fault t, e, h) = (Stops fault t, e, (h.0, h.1, h.2, h.3, g h.0 h.4))

  -- ---- the cursor at a place: if the run is not refused, the signal is t, and nothing else changes

  abbrev pub Placed : State → Ends ns bodies r
  Placed s b u ys = (b ≡ true) × (u.choices ≡ s.choices) × ((es : List Event') → course (ys ++ es) ≡ course es)

  abbrev pub Unended : Refused ns bodies r
  Unended ys = (course ys).end ≡ None

  place_x : (p : ℕ) (s : State) → PartX ns bodies r (Placed s) Unended s (λ n. at_place p (at n s)) s.steps
  place_x p s =
      if_part ns bodies r (Placed s) Unended s s.steps (nat_le p (length s.text)) (λ n. Signals true (at n (record s { cursor = p }))) (λ n. Stops faults.Cursor (at n s))
      (here_with ns bodies r (Placed s) Unended s (record s { cursor = p }) true s.steps refl refl refl (refl, refl, (λ es. refl))) (stop_with ns bodies r (Placed s) Unended s s faults.Cursor s.steps refl refl)

  difference_x : (a b : ℕ) (s : State) → PartX ns bodies r (Placed s) Unended s (λ n. at_difference a b (at n s)) s.steps
  difference_x a b s =
      if_part ns bodies r (Placed s) Unended s s.steps (nat_lt a b) (λ n. Stops faults.Cursor (at n s)) (λ n. at_place (a - b) (at n s)) (stop_with ns bodies r (Placed s) Unended s s faults.Cursor s.steps refl refl) (place_x (a - b) s)

  back_x : (m : Mode) (from : SavedCursor) (s : State) → PartX ns bodies r (Placed s) Unended s (λ n. put_back m from (at n s)) s.steps
  back_x Forward from s = place_x from.cursor s
  back_x Backward from s = difference_x (length s.text + from.beyond + from.cursor) (s.beyond + from.length) s

  over_x : (m : Mode) (i : ℕ) (s : State) → PartX ns bodies r (Placed s) Unended s (λ n. step_over m i (at n s)) s.steps
  over_x Forward i s = place_x (s.cursor + i) s
  over_x Backward i s = difference_x s.cursor i s

  placed_on : (s t : State) (ys : List Event') → Placed s true t ys → (b : Bool) (u : State) (zs : List Event') → Placed t b u zs → Placed s b u (ys ++ zs)
  placed_on s t ys h b u zs k = (k.0, k.1 ∙ h.1, (λ es. ap course (append_assoc ys zs es) ∙ h.2 (zs ++ es) ∙ k.2 es))

  unended_on : (s t : State) (ys : List Event') → Placed s true t ys → (zs : List Event') → Unended zs → Unended (ys ++ zs)
  unended_on s t ys h zs k = ap (λ c. c.end) (h.2 zs) ∙ k

  pub place_after_x : (m : Mode) (from : SavedCursor) (i : ℕ) (s : State) → PartX ns bodies r (Placed s) Unended s (λ n. place_after m from i (at n s)) s.steps
  place_after_x m from i s =
      after_x ns bodies r (Placed s) Unended (Placed s) Unended s (λ n. put_back m from (at n s)) s.steps (step_over m i) (Signals false) (grows_by ns bodies r Placed Unended (step_over m i) (over_x m i)) (good_grows ns bodies r (Signals false) (signals_good ns bodies r false))
      (λ t ys h. conv (Placed t) (λ c v zs. Placed s c v (ys ++ zs)) Unended (λ zs. Unended (ys ++ zs)) t (λ n. step_over m i (at n t)) t.steps (placed_on s t ys h) (unended_on s t ys h) (over_x m i t))
      (λ t ys h. absurd (true≢false (sym h.0))) (λ ys h. h) (back_x m from s)

  pub place_good : (p : ℕ) → Good ns bodies r (at_place p)
  place_good p s = forget ns bodies r (Placed s) Unended s _ s.steps (place_x p s)

  pub to_limit_good : (m : Mode) → Good ns bodies r (to_limit m)
  to_limit_good Forward s = forget ns bodies r (Placed s) Unended s _ s.steps (difference_x (length s.text) s.beyond s)
  to_limit_good Backward s = place_good s.left s

  pub back_good : (m : Mode) (from : SavedCursor) → Good ns bodies r (put_back m from)
  back_good m from s = forget ns bodies r (Placed s) Unended s _ s.steps (back_x m from s)

  -- ---- a state or another, or a refusal

  goes : (s u : State) (b : Bool) → u.events ≡ s.events → u.text ≡ s.text → u.routine ≡ s.routine → Part ns bodies r s (λ n. if b then Signals true (at n u) else Signals false (at n s)) s.steps
  goes s u b e x y =
      if_part ns bodies r (Some_end ns bodies r) (Any_refusal ns bodies r) s s.steps b (λ n. Signals true (at n u)) (λ n. Signals false (at n s)) (here ns bodies r s u true s.steps e x y) (here ns bodies r s s false s.steps refl refl refl)

  or_stops : (s : State) (b : Bool) (fault : RunFault) (run : Family) → Part ns bodies r s run s.steps → Part ns bodies r s (λ n. if b then run n else Stops fault (at n s)) s.steps
  or_stops s b fault run h =
      if_part ns bodies r (Some_end ns bodies r) (Any_refusal ns bodies r) s s.steps b run (λ n. Stops fault (at n s)) h (stop ns bodies r s s fault s.steps refl)

  puts : (s u : State) (from to : ℕ) (cs : List ℕ) → u.events ≡ with_event (Puts from to cs) s.events → u.text ≡ splice s.text from to cs → u.routine ≡ s.routine → Part ns bodies r s (λ n. Signals true (at n u)) s.steps
  puts s u from to cs e x y = noted_with ns bodies r (Some_end ns bodies r) (Any_refusal ns bodies r) s u true (Puts from to cs) s.steps (λ i d es. refl) (λ run rest. tt) e x y tt

  pub next_good : (m : Mode) → Good ns bodies r (next m)
  next_good Forward s = goes s (move_cursor Forward 1 s) (nat_lt 0 (room Forward s)) refl refl refl
  next_good Backward s = goes s (move_cursor Backward 1 s) (nat_lt 0 (room Backward s)) refl refl refl

  -- ---- the slice and the text

  replace_good : (cs : List ℕ) → Good ns bodies r (replace cs)
  replace_good cs s =
      or_stops s (is_slice s) faults.Slice (λ n. if nat_le (length s.text + length cs - (s.ket - s.bra)) 1024 then Signals true (at n (replace_slice cs s)) else Stops faults.TooLong (at n s))
      (or_stops s (nat_le (length s.text + length cs - (s.ket - s.bra)) 1024) faults.TooLong (λ n. Signals true (at n (replace_slice cs s))) (puts s (replace_slice cs s) s.bra s.ket cs refl refl refl))

  keep_good : (x : ℕ) → Good ns bodies r (keep x)
  keep_good x s =
      let u : State = record s { strings = slice_set s.strings x (take (s.ket - s.bra) (drop s.bra s.text)) } in
      or_stops s (is_slice s) faults.Slice (λ n. Signals true (at n u)) (here ns bodies r s u true s.steps refl refl refl)

  put_in_good : (right : Bool) (cs : List ℕ) → Good ns bodies r (put_in right cs)
  put_in_good right cs s =
      or_stops s (nat_le (s.cursor + s.beyond) (length s.text)) faults.Cursor (λ n. if nat_le (length s.text + length cs) 1024 then Signals true (at n (insert_string right cs s)) else Stops faults.TooLong (at n s))
      (or_stops s (nat_le (length s.text + length cs) 1024) faults.TooLong (λ n. Signals true (at n (insert_string right cs s))) (puts s (insert_string right cs s) s.cursor s.cursor cs refl refl refl))

  pub edited_good : (x : Splice) (cs : List ℕ) (m : Mode) → Good ns bodies r (edited_does x cs m)
  edited_good splices.Replace cs m s = replace_good cs s
  edited_good splices.InsertSign cs Forward s = put_in_good true cs s
  edited_good splices.InsertSign cs Backward s = put_in_good false cs s
  edited_good splices.Insert cs Forward s = put_in_good true cs s
  edited_good splices.Insert cs Backward s = put_in_good false cs s
  edited_good splices.Attach cs Forward s = put_in_good false cs s
  edited_good splices.Attach cs Backward s = put_in_good true cs s

  pub still : (s u : State) (b : Bool) → u.events ≡ s.events → u.text ≡ s.text → u.routine ≡ s.routine → Part ns bodies r s (λ n. Signals b (at n u)) s.steps
  still s u b e x y = here ns bodies r s u b s.steps e x y

  pub named_good : (x : Naming) (y : List ℕ) (m : Mode) → Good ns bodies r (named_does ns x y m)
  named_good namings.SetMark y m s = still s (set_mark (place_of (ns kinds.Integers) y) s) true refl refl refl
  named_good namings.Set y m s = still s (set_boolean (place_of (ns kinds.Booleans) y) true s) true refl refl refl
  named_good namings.Unset y m s = still s (set_boolean (place_of (ns kinds.Booleans) y) false s) true refl refl refl
  named_good namings.Arrow y m s = keep_good (place_of (ns kinds.Strings) y) s

  -- ---- moving and testing

  pub match_good : (cs : List ℕ) (m : Mode) → Good ns bodies r (match cs m)
  match_good cs Forward s = goes s (move_cursor Forward (length cs) s) (starts_with nat_eq (ahead Forward s) (read_as Forward cs)) refl refl refl
  match_good cs Backward s = goes s (move_cursor Backward (length cs) s) (starts_with nat_eq (ahead Backward s) (read_as Backward cs)) refl refl refl

  pub class_good : (wanted : Bool) (has : ℕ → Bool) (m : Mode) → Good ns bodies r (one_of wanted has m)
  class_good wanted has Forward s = goes s (move_cursor Forward 1 s) (next_is wanted has (slice_get (ahead Forward s) 0)) refl refl refl
  class_good wanted has Backward s = goes s (move_cursor Backward 1 s) (next_is wanted has (slice_get (ahead Backward s) 0)) refl refl refl

  hop_good : (o : Option ℕ) (m : Mode) → Good ns bodies r (hop o m)
  hop_good None m s = still s s false refl refl refl
  hop_good (Some i) Forward s = goes s (move_cursor Forward i s) (nat_le i (room Forward s)) refl refl refl
  hop_good (Some i) Backward s = goes s (move_cursor Backward i s) (nat_le i (room Backward s)) refl refl refl

  at_mark_good : (o : Option ℕ) → Good ns bodies r (at_mark o)
  at_mark_good None s = still s s false refl refl refl
  at_mark_good (Some i) s = still s s (nat_eq s.cursor i) refl refl refl

  to_mark_good : (o : Option ℕ) (m : Mode) → Good ns bodies r (to_mark o m)
  to_mark_good None m s = still s s false refl refl refl
  to_mark_good (Some i) Forward s = goes s (record s { cursor = i }) (nat_le s.cursor i && nat_le (i + s.beyond) (length s.text)) refl refl refl
  to_mark_good (Some i) Backward s = goes s (record s { cursor = i }) (nat_le s.left i && nat_le i s.cursor) refl refl refl

  pub moved_good : (x : Move) (v : Value) → GoodIn ns bodies r (moved_does x v)
  moved_good moves.Hop v m s = given_part ns bodies r s s.steps v (λ z n. hop (natural z) m (at n s)) (λ z. hop_good (natural z) m s)
  moved_good moves.AtMark v m s = given_part ns bodies r s s.steps v (λ z n. at_mark (natural z) (at n s)) (λ z. at_mark_good (natural z) s)
  moved_good moves.ToMark v m s = given_part ns bodies r s s.steps v (λ z n. to_mark (natural z) m (at n s)) (λ z. to_mark_good (natural z) m s)

  pub assigned_good : (x : ℕ) (o : Assignment) (v : Value) → Good ns bodies r (assigned_does x o v)
  assigned_good x o v s =
      given_part ns bodies r s s.steps (with_value v (meaning.assigned_value o (integer_at x s))) (λ z n. Signals true (at n (record s { integers = slice_set s.integers x z })))
      (λ z. still s (record s { integers = slice_set s.integers x z }) true refl refl refl)

  pub compared_good : (o : Comparison) (v w : Value) → Good ns bodies r (compared_does v o w)
  compared_good o v w s =
      given_part ns bodies r s s.steps v (λ x n. continue_with w (at n s) (λ y. Signals (meaning.is_so o x y) (at n s)))
      (λ x. given_part ns bodies r s s.steps w (λ y n. Signals (meaning.is_so o x y) (at n s)) (λ y. still s s (meaning.is_so o x y) refl refl refl))

  -- all but `substring`
  abbrev pub IsOther : Simple → Type 0
  IsOther simples.Substring = ⊥
  IsOther x = ⊤

  pub simple_good : (d : Doing) (x : Simple) → IsOther x → GoodIn ns bodies r (simple_does d x)
  simple_good d simples.Substring other m s = absurd other
  simple_good d simples.LeftBracket other Forward s = still s (left_bracket Forward s) true refl refl refl
  simple_good d simples.LeftBracket other Backward s = still s (left_bracket Backward s) true refl refl refl
  simple_good d simples.RightBracket other Forward s = still s (right_bracket Forward s) true refl refl refl
  simple_good d simples.RightBracket other Backward s = still s (right_bracket Backward s) true refl refl refl
  simple_good d simples.Next other m s = next_good m s
  simple_good d simples.ToLimit other m s = to_limit_good m s
  simple_good d simples.AtLimit other Forward s = still s s (nat_eq (room Forward s) 0) refl refl refl
  simple_good d simples.AtLimit other Backward s = still s s (nat_eq (room Backward s) 0) refl refl refl
  simple_good d simples.Delete other m s = replace_good [] s
  simple_good d simples.True other m s = still s s true refl refl refl
  simple_good d simples.False other m s = still s s false refl refl refl
