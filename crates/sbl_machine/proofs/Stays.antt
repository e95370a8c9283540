-- What no command without a command inside it changes: what is touched, the routine that runs and its choices.
use Rattle.std.proofs.Common.{◌≡◌, ℕ, ℤ, zero, suc, ◌+◌, ◌-◌, Bool, true, false, List, length, refl, Option, Some, None, Ok, Err}
use Rattle.std.specs.Prelude.{slice_get, nat_lt, nat_le, nat_eq, if◌then◌else◌, ◌&&◌}
use Rattle.std.specs.List.{starts_with}
use Rattle.sbl_semantics.specs.Fitting.{read_as}
use Rattle.sbl_ast.specs.declared.tree.Assignment.{Assignment}
use Rattle.sbl_ast.specs.declared.tree.Comparison.{Comparison}
use Rattle.sbl_ast.specs.declared.tree.Move.{Move}
use Rattle.sbl_ast.specs.declared.tree.Move.TheVariants as moves
use Rattle.sbl_ast.specs.declared.tree.Naming.{Naming}
use Rattle.sbl_ast.specs.declared.tree.Naming.TheVariants as namings
use Rattle.sbl_ast.specs.declared.tree.Splice.{Splice}
use Rattle.sbl_ast.specs.declared.tree.Splice.TheVariants as splices
use Rattle.sbl_ast.specs.declared.tree.DeclarationKind.TheVariants as kinds
use Rattle.sbl_ast.specs.declared.mode.Mode.{Mode}
use Rattle.sbl_ast.specs.declared.mode.Mode.TheVariants.{Forward, Backward}
use Rattle.sbl_semantics.specs.Items.{DeclaredNames, place_of}
use Rattle.sbl_semantics.specs.declared.cursor.SavedCursor.{SavedCursor}
use Rattle.sbl_semantics.specs.declared.limits.Limits.{Limits}
use Rattle.sbl_semantics.specs.declared.touch.Touch.{Touch}
use Rattle.sbl_semantics.specs.Meaning.{moved_does, assigned_does, assigned_value, compared_does, named_does, edited_does}
use Rattle.sbl_semantics.specs.Moves.{match, one_of, next, hop, at_mark, to_mark}
use Rattle.sbl_semantics.specs.inside.MoveParts.{next_is}
use Rattle.sbl_semantics.specs.Numbers.{Value, with_value, integer_at, natural, continue_with}
use Rattle.sbl_semantics.specs.Control.{limit_here, limit_back}
use Rattle.sbl_semantics.specs.inside.ControlParts.{end_search}
use Rattle.sbl_semantics.specs.Slices.{is_slice, left_bracket, right_bracket, replace, keep, put_in, insert, attach}
use Rattle.sbl_semantics.specs.State.{State, Ending, Signals, Stops, pay, ahead, room, move_cursor, at_place, at_difference, to_limit, put_back, step_over}

-- the part of a state that only calls and searches change
pub record Rest : Type 0 where
  pub routine : ℕ
  pub choices : List (Option ℕ)
  pub touched : List Touch

abbrev pub rest : State → Rest
rest s = record { routine = s.routine; choices = s.choices; touched = s.touched }

-- where a run stands when it ends
abbrev pub end_state : Ending → State
end_state (Signals b s) = s
end_state (Stops fault s) = s

-- it is the same at an ending
abbrev pub Same : State → Ending → Type 0
Same s e = rest (end_state e) ≡ rest s

pub either_same : (b : Bool) (s : State) (x y : Ending) → Same s x → Same s y → Same s (if b then x else y)
either_same true s x y p q = p
either_same false s x y p q = q

pub pay_same : (n : ℕ) (s : State) → Same s (pay n s)
pay_same zero s = refl
pay_same (suc n) s = refl

pub place_same : (n : ℕ) (s : State) → Same s (at_place n s)
place_same n s = either_same (nat_le n (length s.text)) s _ _ refl refl

difference_same : (a b : ℕ) (s : State) → Same s (at_difference a b s)
difference_same a b s = either_same (nat_lt a b) s _ _ refl (place_same (a - b) s)

pub to_limit_same : (m : Mode) (s : State) → Same s (to_limit m s)
to_limit_same Forward s = difference_same (length s.text) s.beyond s
to_limit_same Backward s = place_same s.left s

pub back_same : (m : Mode) (from : SavedCursor) (s : State) → Same s (put_back m from s)
back_same Forward from s = place_same from.cursor s
back_same Backward from s = difference_same (length s.text + from.beyond + from.cursor) (s.beyond + from.length) s

pub over_same : (m : Mode) (n : ℕ) (s : State) → Same s (step_over m n s)
over_same Forward n s = place_same (s.cursor + n) s
over_same Backward n s = difference_same s.cursor n s

moved_same : (m : Mode) (n : ℕ) (s : State) → Same s (Signals true (move_cursor m n s))
moved_same Forward n s = refl
moved_same Backward n s = refl

pub match_same : (string : List ℕ) (m : Mode) (s : State) → Same s (match string m s)
match_same string m s = either_same (starts_with nat_eq (ahead m s) (read_as m string)) s _ _ (moved_same m (length string) s) refl

pub class_same : (wanted : Bool) (has : ℕ → Bool) (m : Mode) (s : State) → Same s (one_of wanted has m s)
class_same wanted has m s = either_same (next_is wanted has (slice_get (ahead m s) 0)) s _ _ (moved_same m 1 s) refl

pub next_same : (m : Mode) (s : State) → Same s (next m s)
next_same m s = either_same (nat_lt 0 (room m s)) s _ _ (moved_same m 1 s) refl

hop_same : (n : Option ℕ) (m : Mode) (s : State) → Same s (hop n m s)
hop_same None m s = refl
hop_same (Some n) m s = either_same (nat_le n (room m s)) s _ _ (moved_same m n s) refl

at_mark_same : (n : Option ℕ) (s : State) → Same s (at_mark n s)
at_mark_same None s = refl
at_mark_same (Some n) s = refl

to_mark_same : (n : Option ℕ) (m : Mode) (s : State) → Same s (to_mark n m s)
to_mark_same None m s = refl
to_mark_same (Some n) Forward s = either_same (nat_le s.cursor n && nat_le (n + s.beyond) (length s.text)) s _ _ refl refl
to_mark_same (Some n) Backward s = either_same (nat_le s.left n && nat_le n s.cursor) s _ _ refl refl

pub left_same : (m : Mode) (s : State) → Same s (Signals true (left_bracket m s))
left_same Forward s = refl
left_same Backward s = refl

pub right_same : (m : Mode) (s : State) → Same s (Signals true (right_bracket m s))
right_same Forward s = refl
right_same Backward s = refl

pub replace_same : (string : List ℕ) (s : State) → Same s (replace string s)
replace_same string s =
    either_same (is_slice s) s _ _ (either_same (nat_le (length s.text + length string - (s.ket - s.bra)) 1024) s _ _ refl refl) refl

keep_same : (x : ℕ) (s : State) → Same s (keep x s)
keep_same x s = either_same (is_slice s) s _ _ refl refl

put_in_same : (right : Bool) (string : List ℕ) (s : State) → Same s (put_in right string s)
put_in_same right string s =
    either_same (nat_le (s.cursor + s.beyond) (length s.text)) s _ _ (either_same (nat_le (length s.text + length string) 1024) s _ _ refl refl) refl

insert_same : (string : List ℕ) (m : Mode) (s : State) → Same s (insert string m s)
insert_same string Forward s = put_in_same true string s
insert_same string Backward s = put_in_same false string s

attach_same : (string : List ℕ) (m : Mode) (s : State) → Same s (attach string m s)
attach_same string Forward s = put_in_same false string s
attach_same string Backward s = put_in_same true string s

given_same : (v : Value) (s : State) (go : ℤ → Ending) → ((z : ℤ) → Same s (go z)) → Same s (continue_with v s go)
given_same (Ok z) s go h = h z
given_same (Err fault) s go h = refl

pub found_same : (past : Bool) (m : Mode) (from t : State) → Same t (end_search past m from t)
found_same true m from t = refl
found_same false m from t = back_same m _ t

pub here_same : (m : Mode) (s : State) → rest (limit_here m s) ≡ rest s
here_same Forward s = refl
here_same Backward s = refl

pub limit_back_same : (m : Mode) (from : Limits) (s : State) → rest (limit_back m from s) ≡ rest s
limit_back_same Forward from s = refl
limit_back_same Backward from s = refl

-- ---- the commands of a tree

pub moves_same : (x : Move) (v : Value) (m : Mode) (s : State) → Same s (moved_does x v m s)
moves_same moves.Hop v m s = given_same v s _ (λ z. hop_same (natural z) m s)
moves_same moves.AtMark v m s = given_same v s _ (λ z. at_mark_same (natural z) s)
moves_same moves.ToMark v m s = given_same v s _ (λ z. to_mark_same (natural z) m s)

pub assigned_same : (x : ℕ) (o : Assignment) (v : Value) (s : State) → Same s (assigned_does x o v s)
assigned_same x o v s = given_same (with_value v (assigned_value o (integer_at x s))) s _ (λ z. refl)

pub compared_same : (o : Comparison) (v w : Value) (s : State) → Same s (compared_does v o w s)
compared_same o v w s = given_same v s _ (λ x. given_same w s _ (λ y. refl))

pub named_same : (ns : DeclaredNames) (x : Naming) (n : List ℕ) (m : Mode) (s : State) → Same s (named_does ns x n m s)
named_same ns namings.Arrow n m s = keep_same (place_of (ns kinds.Strings) n) s
named_same ns _ n m s = refl

pub edited_same : (x : Splice) (cs : List ℕ) (m : Mode) (s : State) → Same s (edited_does x cs m s)
edited_same splices.Replace cs m s = replace_same cs s
edited_same splices.InsertSign cs m s = insert_same cs m s
edited_same splices.Insert cs m s = insert_same cs m s
edited_same splices.Attach cs m s = attach_same cs m s
