-- What instructions perform if the cursor is where it was saved.
use Rattle.std.proofs.Common.{◌≡◌, ℕ, ◌+◌, ◌-◌, ◌<◌, ◌≤◌, zero, suc, Bool, true, false, List, length, drop, get_or, refl, sym, ap, subst, ◌∙◌, arith}
use Rattle.std.specs.Prelude.{nat_le, nat_lt, nat_eq, slice_get, if◌then◌else◌}
use Rattle.std.specs.List.{starts_with}
use Rattle.std.proofs.lemmas.Bool.Decides.{nat_tests}
use Rattle.std.proofs.Math.Path.{fun_ext}
use Rattle.sbl_program.specs.AmongStrings.{Listing}
use Rattle.sbl_program.specs.Program as programs
use Rattle.sbl_program.specs.ProgramOf.{view_action, view_node, view_nodes}
use Rattle.sbl_program.specs.declared.action.Action.{Action}
use Rattle.sbl_program.specs.declared.action.Action.TheVariants.{LeftBracket}
use Rattle.sbl_program.specs.declared.node.Node.TheVariants.{Act}
use Rattle.sbl_program.specs.declared.node.Node.{Node}
use Rattle.sbl_program.specs.Rows.{pays}
use Rattle.sbl_program.specs.Actions.{acts, test_grouping}
use Rattle.sbl_program.specs.Run.{runs, all_run}
use Rattle.sbl_program.proofs.Turns.{turn_is}
use Rattle.sbl_semantics.specs.Fitting.{read_as}
use Rattle.sbl_semantics.specs.Moves.{match, touch_grouping}
use Rattle.sbl_semantics.specs.inside.MoveParts.{next_is}
use Rattle.sbl_semantics.specs.Control.{pay_first}
use Rattle.sbl_semantics.specs.Slices.{left_bracket}
use Rattle.sbl_semantics.specs.State.{State, Ending, Signals, Stops, after, then_on, pay, at_place, at_difference, saved_cursor, put_back, ahead, move_cursor}
use Rattle.sbl_semantics.specs.declared.fault.RunFault.TheVariants.{Cursor}
use Rattle.sbl_semantics.specs.declared.cursor.SavedCursor.{SavedCursor}
use Rattle.sbl_ast.specs.declared.mode.Mode.{Mode}
use Rattle.sbl_ast.specs.declared.mode.Mode.TheVariants.{Forward, Backward}
use Rattle.sbl_code.specs.declared.instruction.Instruction.{Instruction}
use Rattle.sbl_code.specs.Flow.{flow, back_if}
use Rattle.sbl_code.specs.Performs.{IsAt, Meaning, Performs, PerformsAt, Restores, Tests}
use Rattle.sbl_code.proofs.Endings.{after_after, after_same, then_same, own_step}
use Rattle.sbl_code.proofs.Performing.{Does, after_steps, arm_means}
use Rattle.sbl_code.proofs.ProgramViews.{act_does}

-- ---- where the cursor is

-- the same distance
differ_same : (a b c d : ℕ) (g : State) → a + d ≡ c + b → at_difference a b g ≡ at_difference c d g
differ_same a b c d g e =
    let less : nat_lt a b ≡ nat_lt c d = grind (arith, nat_tests, e) in
    let same : a - b ≡ c - d = omega (arith, e) in
    ap (λ x. if x then Stops Cursor g else at_place (a - b) g) less ∙ ap (λ n. if nat_lt c d then Stops Cursor g else at_place n g) same

placed_at : (b : Bool) (n : ℕ) (s t : State) → (if b then Signals true (record s { cursor = n }) else Stops Cursor s) ≡ Signals true t → t ≡ record s { cursor = n }
placed_at true n s t e = cc
placed_at false n s t e = let no : ⊥ = cc in absurd no

place_at : (n : ℕ) (s t : State) → at_place n s ≡ Signals true t → t ≡ record s { cursor = n }
place_at n s t e = placed_at (nat_le n (length s.text)) n s t e

differ_at : (b : Bool) (n : ℕ) (s t : State) → (if b then Stops Cursor s else at_place n s) ≡ Signals true t → (b ≡ false) × (t ≡ record s { cursor = n })
differ_at true n s t e = let no : ⊥ = cc in absurd no
differ_at false n s t e = (refl, place_at n s t e)

-- a cursor that was put back is where it was saved
pub back_at : (m : Mode) (from : SavedCursor) (s t : State) → put_back m from s ≡ Signals true t → IsAt m from t
back_at Forward from s t e g = ap (λ (x : State). at_place x.cursor g) (place_at from.cursor s t e)
back_at Backward from s t e g =
    let a = length s.text + from.beyond + from.cursor in
    let b = s.beyond + from.length in
    let q = differ_at (nat_lt a b) (a - b) s t e in
    let l : b ≤ a = grind (arith, nat_tests, q.0) in
    let cursor : t.cursor ≡ a - b = ap (λ (x : State). x.cursor) q.1 in
    let beyond : t.beyond ≡ s.beyond = ap (λ (x : State). x.beyond) q.1 in
    let long : length t.text ≡ length s.text = ap (λ (x : State). length x.text) q.1 in
    differ_same (length g.text + t.beyond + t.cursor) (g.beyond + length t.text) (length g.text + from.beyond + from.cursor) (g.beyond + from.length) g (omega (arith, l, cursor, beyond, long))

-- steps leave the cursor where it is
one_saved : (k cost : ℕ) (s u : State) → ((v : State) → pays cost v ≡ Signals true u → saved_cursor u ≡ saved_cursor v) → then_on (pay k s) (pays cost) ≡ Signals true u → saved_cursor u ≡ saved_cursor s
one_saved zero n s u h e = let no : ⊥ = cc in absurd no
one_saved (suc k) n s u h e = h (record s { steps = k }) e

pub pays_saved : (cost : ℕ) (s u : State) → pays cost s ≡ Signals true u → saved_cursor u ≡ saved_cursor s
pays_saved zero s u e = let same : s ≡ u = cc in ap saved_cursor (sym same)
pays_saved (suc n) s u e = one_saved s.steps n s u (λ v. pays_saved n v u) e

-- putting the cursor back to where it is does nothing
pub stays : (m : Mode) (s : State) → s.cursor ≤ length s.text → put_back m (saved_cursor s) s ≡ Signals true s
stays Forward s l = let inside : nat_le s.cursor (length s.text) ≡ true = grind (arith, nat_tests, l) in ap (λ x. if x then Signals true s else Stops Cursor s) inside
stays Backward s l =
    let inside : nat_le s.cursor (length s.text) ≡ true = grind (arith, nat_tests, l) in
    let e : (length s.text + s.beyond + s.cursor) + 0 ≡ s.cursor + (s.beyond + length s.text) = omega arith in
    let far : nat_lt s.cursor 0 ≡ false = grind (arith, nat_tests) in
    let none : s.cursor - 0 ≡ s.cursor = omega arith in
    differ_same (length s.text + s.beyond + s.cursor) (s.beyond + length s.text) s.cursor 0 s e
    ∙ ap (λ x. if x then Stops Cursor s else at_place (s.cursor - 0) s) far
    ∙ ap (λ n. at_place n s) none
    ∙ ap (λ x. if x then Signals true s else Stops Cursor s) inside

-- ---- what instructions perform

pub anywhere : (tables : ℕ → Listing) (d : Meaning) (cost n k : ℕ) (next fail entry : Instruction) → k ≡ n + 1 → Performs tables d cost k next fail entry → PerformsAt tables d cost n next fail entry
anywhere tables d cost n k next fail entry is h' p levels m slots go stop l g w ys a s at =
    let one : k ≡ suc n = omega (arith, is) in
    let h = subst (λ j. Performs tables d cost j next fail entry) one h' in
    h p levels m slots go stop l g w ys a s

pub performs_test :
    (tables : ℕ → Listing) (d : Meaning) (cost n : ℕ) (next fail stay entry : Instruction) → Restores n stay fail → Tests tables d cost next stay entry →
    PerformsAt tables d cost n next fail entry
performs_test tables d cost n next fail stay entry r is p levels m slots go stop l g k ys a s at =
    let to = flow p levels tables next m ys in
    let out = flow p levels tables fail m ys in
    let home = λ (u f : State). then_on (put_back m (saved_cursor u) f) (flow p levels tables stay m ys) in
    let same = λ (u : State) (e : pays cost s ≡ Signals true u) (f : State).
    ap (λ w. then_on (put_back m w f) (flow p levels tables stay m ys)) (pays_saved cost s u e)
    ∙ ap (λ r. then_on r (flow p levels tables stay m ys)) (at f ∙ ap (λ w. put_back m w f) (sym (a.same n (omega arith))))
    ∙ sym (r p levels tables m ys f)
    in
    is p levels m ys s
    ∙ then_same (pays cost s) (λ u. after (d p levels m u) to (home u)) (λ u. after (d p levels m u) to out) (λ u e. after_same (d p levels m u) to (home u) to out (λ t. refl) (same u e))
    ∙ after_steps cost s (d p levels m) to out go stop (g ys a) (k ys a)

pub same_meaning_at :
    (tables : ℕ → Listing) (d e : Meaning) (cost n : ℕ) (next fail entry : Instruction) →
    ((p : programs.Program) (levels : ℕ) (m : Mode) (s : State) → d p levels m s ≡ e p levels m s) →
    PerformsAt tables d cost n next fail entry → PerformsAt tables e cost n next fail entry
same_meaning_at tables d e cost n next fail entry q h p levels m slots go stop l g k ys a s at =
    h p levels m slots go stop l g k ys a s at
    ∙ ap (λ r. after r go stop) (after_same (pays cost s) (d p levels m) (Signals false) (e p levels m) (Signals false) (q p levels m) (λ u. refl))

pub first_step_at :
    (tables : ℕ → Listing) (d : Meaning) (cost more n : ℕ) (next fail entry : Instruction) → more ≡ cost + 1 →
    PerformsAt tables d more n next fail entry → PerformsAt tables (λ p levels. pay_first (d p levels)) cost n next fail entry
first_step_at tables d cost more n next fail entry is h p levels m slots go stop l g k ys a s at =
    let e : more ≡ suc cost = omega (arith, is) in
    h p levels m slots go stop l g k ys a s at
    ∙ ap (λ j. after (then_on (pays j s) (d p levels m)) go stop) e
    ∙ ap (λ r. after r go stop) (own_step cost s (d p levels) m)

pub arm_at :
    (tables : ℕ → Listing) (d : Meaning) (node x : Node) (cost n : ℕ) (next fail entry : Instruction) → node ≡ x → Does tables d x →
    PerformsAt tables (λ p levels. pay_first (d p levels)) cost n next fail entry → PerformsAt tables (λ p levels. runs p levels (view_node tables node)) cost n next fail entry
arm_at tables d node x cost n next fail entry e q = same_meaning_at tables (λ p levels. pay_first (d p levels)) (λ p levels. runs p levels (view_node tables node)) cost n next fail entry (arm_means tables d node x e q)

-- one after another
pub in_turn_at :
    (tables : ℕ → Listing) (c d : Meaning) (cost n k : ℕ) (next fail middle entry : Instruction) → k ≡ n + 1 →
    PerformsAt tables c cost n middle fail entry → Performs tables d 0 k next fail middle →
    PerformsAt tables (λ p levels m s. after (c p levels m s) (d p levels m) (Signals false)) cost n next fail entry
in_turn_at tables c d cost n more next fail middle entry is h k' p levels m slots go stop l g w ys a s at =
    let one : more ≡ suc n = omega (arith, is) in
    let k = subst (λ j. Performs tables d 0 j next fail middle) one k' in
    h p levels m slots (λ t. after (d p levels m t) go stop) stop l (k p levels m slots go stop l g w) w ys a s at
    ∙ after_after (pays cost s) (c p levels m) (Signals false) (λ t. after (d p levels m t) go stop) stop
    ∙ after_same (pays cost s) (λ u. after (c p levels m u) (λ t. after (d p levels m t) go stop) stop) (λ u. stop u) (λ u. after (after (c p levels m u) (d p levels m) (Signals false)) go stop) (λ u. stop u) (λ u. sym (after_after (c p levels m u) (d p levels m) (Signals false) go stop)) (λ u. refl)
    ∙ sym (after_after (pays cost s) (λ u. after (c p levels m u) (d p levels m) (Signals false)) (Signals false) go stop)

-- `[` leaves the cursor where it is
bracket_saved : (m : Mode) (s : State) → saved_cursor (left_bracket m s) ≡ saved_cursor s
bracket_saved Forward s = refl
bracket_saved Backward s = refl

-- `[`, and then other commands
pub bracket_at :
    (tables : ℕ → Listing) (d : Meaning) (cost n : ℕ) (next fail middle entry : Instruction) →
    ((p : programs.Program) (levels : ℕ) (m : Mode) (ys : List SavedCursor) (s : State) → flow p levels tables entry m ys s ≡ then_on (pays cost s) (λ u. flow p levels tables middle m ys (left_bracket m u))) →
    PerformsAt tables d 0 n next fail middle →
    PerformsAt tables (λ p levels m s. d p levels m (left_bracket m s)) cost n next fail entry
bracket_at tables d cost n next fail middle entry is h p levels m slots go stop l g k ys a s at =
    let deeper = λ (u : State) (e : pays cost s ≡ Signals true u) (t : State). ap (λ w. put_back m w t) (bracket_saved m u ∙ pays_saved cost s u e) ∙ at t in
    is p levels m ys s
    ∙ then_same (pays cost s) (λ u. flow p levels tables middle m ys (left_bracket m u)) (λ u. after (d p levels m (left_bracket m u)) go stop)
    (λ u e. h p levels m slots go stop l g k ys a (left_bracket m u) (deeper u e))
    ∙ after_steps cost s (λ u. d p levels m (left_bracket m u)) go stop go stop (λ t. refl) (λ t. refl)

-- the turn of `[` in a sequence
pub bracket_turn :
    (tables : ℕ → Listing) (p : programs.Program) (levels : ℕ) (cs : List Node) (x : Node) (a : Action) (m : Mode) (s : State) →
    0 < length cs → x ≡ get_or cs 0 x → x ≡ Act a → a ≡ LeftBracket →
    pay_first (λ m s. all_run p levels (view_nodes tables (drop 1 cs)) m (left_bracket m s)) m s ≡ all_run p levels (view_nodes tables cs) m s
bracket_turn tables p levels cs x a m s l at is bracket =
    let rest = all_run p levels (view_nodes tables (drop 1 cs)) in
    let own = λ (u : State). act_does tables p levels a m u ∙ ap (λ b. acts p.groupings (view_action b) m u) bracket in
    sym (turn_is tables p levels cs 0 x m s l at
    ∙ ap (λ y. after (runs p levels (view_node tables y) m s) (rest m) (Signals false)) is
    ∙ ap (λ f. after (then_on (pay s.steps s) f) (rest m) (Signals false)) (fun_ext own)
    ∙ after_after (pay s.steps s) (λ u. Signals true (left_bracket m u)) (Signals false) (rest m) (Signals false))

-- ---- a run that stays where it is

-- a test that signals f leaves the cursor where it is
string_stays : (b : Bool) (k : ℕ) (m : Mode) (s t : State) → (if b then Signals true (move_cursor m k s) else Signals false s) ≡ Signals false t → saved_cursor t ≡ saved_cursor s
string_stays true k m s t e = let no : ⊥ = cc in absurd no
string_stays false k m s t e = let same : s ≡ t = cc in ap saved_cursor (sym same)

pub match_stays : (string : List ℕ) (m : Mode) (s t : State) → match string m s ≡ Signals false t → saved_cursor t ≡ saved_cursor s
match_stays string m s t e = string_stays (starts_with nat_eq (ahead m s) (read_as m string)) (length string) m s t e

pub grouping_stays : (wanted : Bool) (class : ℕ → Bool) (g : ℕ) (m : Mode) (s t : State) → test_grouping wanted class g m s ≡ Signals false t → saved_cursor t ≡ saved_cursor s
grouping_stays wanted class g m s t e = let u = touch_grouping g s in string_stays (next_is wanted class (slice_get (ahead m u) 0)) 1 m u t e

pub back_stays : (b : Bool) (m : Mode) (s t : State) (go : State → Ending) → saved_cursor t ≡ saved_cursor s → t.cursor ≤ length t.text → back_if b m s go t ≡ go t
back_stays true m s t go e l = ap (λ w. then_on (put_back m w t) go) (sym e) ∙ ap (λ r. then_on r go) (stays m t l)
back_stays false m s t go e l = refl
