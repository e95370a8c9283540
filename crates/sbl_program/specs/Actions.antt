-- What each command without a command inside does after its step is paid.
use Rattle.std.specs.Prelude.{ℕ, Bool, true, false, List, []}
use Rattle.sbl_program.specs.Arithmetic.{characters, value, assign, compare}
use Rattle.sbl_semantics.specs.Moves.{match, one_of, touch_grouping, next, hop, at_limit, set_mark, at_mark, to_mark, set_boolean, test_boolean}
use Rattle.sbl_semantics.specs.Numbers.{natural, continue_with}
use Rattle.sbl_program.specs.Program as programs
use Rattle.sbl_program.specs.Terms.{class_at}
use Rattle.sbl_semantics.specs.Slices.{left_bracket, right_bracket, replace, keep, insert, attach}
use Rattle.sbl_semantics.specs.State.{State, Ending, Signals, Doing, to_limit}
use Rattle.sbl_ast.specs.declared.mode.Mode.{Mode}

-- the test of the grouping with this number and this class touches it
abbrev pub test_grouping : Bool → (ℕ → Bool) → ℕ → Doing
test_grouping wanted class g m s = one_of wanted class m (touch_grouping g s)

-- `classes` has the classes of the groupings
abbrev pub acts : List (ℕ → Bool) → programs.Action → Mode → State → Ending
acts classes (programs.match t) m s = match (characters t s) m s
acts classes (programs.grouping g) m s = test_grouping true (class_at classes g) g m s
acts classes (programs.non g) m s = test_grouping false (class_at classes g) g m s
acts classes programs.next m s = next m s
acts classes (programs.hop a) m s = continue_with (value a m s) s (λ z. hop (natural z) m s)
acts classes programs.tolimit m s = to_limit m s
acts classes programs.atlimit m s = at_limit m s
acts classes (programs.setmark x) m s = Signals true (set_mark x s)
acts classes (programs.atmark a) m s = continue_with (value a m s) s (λ z. at_mark (natural z) s)
acts classes (programs.tomark a) m s = continue_with (value a m s) s (λ z. to_mark (natural z) m s)
acts classes (programs.set b) m s = Signals true (set_boolean b true s)
acts classes (programs.unset b) m s = Signals true (set_boolean b false s)
acts classes (programs.boolean b) m s = test_boolean b s
acts classes programs.left_bracket m s = Signals true (left_bracket m s)
acts classes programs.right_bracket m s = Signals true (right_bracket m s)
acts classes (programs.replace t) m s = replace (characters t s) s
acts classes programs.delete m s = replace [] s
acts classes (programs.keep x) m s = keep x s
acts classes (programs.insert t) m s = insert (characters t s) m s
acts classes (programs.attach t) m s = attach (characters t s) m s
acts classes (programs.assign x change a) m s = assign x change a m s
acts classes (programs.compare a relation b) m s = compare a relation b m s
acts classes programs.t m s = Signals true s
acts classes programs.f m s = Signals false s
