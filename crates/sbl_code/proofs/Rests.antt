-- Where a row goes on after its first command, and the groups of an among one after another.
use Rattle.std.proofs.Common.{◌≡◌, ℕ, ◌<◌, suc, Bool, true, false, List, [], ◌∷◌, ◌++◌, length, refl, sym, ap, subst, ◌∙◌, arith}
use Rattle.std.specs.Prelude.{slice_index_or, slice_set, if◌then◌else◌}
use Rattle.sbl_ast.specs.declared.tree.Joiner.TheVariants.{Or, And}
use Rattle.sbl_program.specs.AmongStrings.{Listing}
use Rattle.sbl_program.specs.Chains.{JoinedView}
use Rattle.sbl_program.specs.Program as programs
use Rattle.sbl_program.specs.ProgramOf.{view_node}
use Rattle.sbl_program.specs.declared.node.Node.{Node}
use Rattle.sbl_program.specs.Rows.{pays, is_settled, joined_runs, others_run}
use Rattle.sbl_program.specs.Run.{runs}
use Rattle.sbl_program.proofs.ChainRuns.{others_stop}
use Rattle.sbl_semantics.specs.State.{State, Ending, Signals, Stops, after, then_on, saved_cursor, put_back}
use Rattle.sbl_semantics.specs.declared.cursor.SavedCursor.{SavedCursor}
use Rattle.sbl_ast.specs.declared.mode.Mode.{Mode}
use Rattle.sbl_code.specs.declared.instruction.Instruction.{Instruction}
use Rattle.sbl_code.specs.declared.instruction.GroupCode.{GroupCode, out-GroupCode}
use Rattle.sbl_code.specs.declared.assembler.Exits.{Exits}
use Rattle.sbl_code.specs.Slots.{no_cursor}
use Rattle.sbl_code.specs.Flow.{flow}
use Rattle.sbl_code.specs.Performs.{GoesOn, Meaning, Performs, PerformsAt, Saves, PerformsWithExits, Restores, IsRest, ArePerformed}
use Rattle.sbl_code.proofs.Endings.{after_after, after_same, then_same, back_passes}
use Rattle.sbl_code.proofs.PerformingAt.{back_at}
use Rattle.sbl_code.proofs.Performing.{agree_self, after_steps, goes_deeper, saved_there}

module _ (p : programs.Program) (levels : ℕ) (m : Mode) where
  -- what is left of a row after an ending is what is left after its signal
  others_split : (from : SavedCursor) (os : List JoinedView) (e : Ending) (go stop : State → Ending) →
      after (others_run p levels m from os e) go stop
      ≡ after e (λ t. after (others_run p levels m from os (Signals true t)) go stop) (λ f. after (others_run p levels m from os (Signals false f)) go stop)
  others_split from os (Signals true s) go stop = refl
  others_split from os (Signals false s) go stop = refl
  others_split from os (Stops fault s) go stop = ap (λ r. after r go stop) (others_stop p levels m from os fault s)

  joined_runs_settled : (from : SavedCursor) (o : JoinedView) (b : Bool) (s : State) → is_settled o.0 b ≡ true → joined_runs p levels m from o b s ≡ Signals b s
  joined_runs_settled from o b s e = ap (λ x. if x then Signals b s else then_on (put_back m from s) (runs p levels o.1 m)) e

  open_still : (from : SavedCursor) (o : JoinedView) (b : Bool) (s : State) → is_settled o.0 b ≡ false → joined_runs p levels m from o b s ≡ then_on (put_back m from s) (runs p levels o.1 m)
  open_still from o b s e = ap (λ x. if x then Signals b s else then_on (put_back m from s) (runs p levels o.1 m)) e

-- after the last command
pub rest_none : (tables : ℕ → Listing) (n : ℕ) (exits rest : Exits) → rest.next.value ≡ exits.next.value → rest.fail.value ≡ exits.fail.value → IsRest tables n [] exits rest
rest_none tables n exits rest x y p levels m slots ys go stop l g h a = (
  λ zs b s. ap (λ i. flow p levels tables i m zs s) x ∙ goes_deeper (flow p levels tables exits.next.value) m n slots ys go a g zs b s,
  λ zs b s. ap (λ i. flow p levels tables i m zs s) y ∙ goes_deeper (flow p levels tables exits.fail.value) m n slots ys stop a h zs b s,
)

module _ (tables : ℕ → Listing) (n : ℕ) (exits rest : Exits) (o : JoinedView) (os : List JoinedView) (p : programs.Program) (levels : ℕ) (m : Mode) (slots ys : List SavedCursor) (go stop : State → Ending) where
  abbrev from : SavedCursor
  from = slice_index_or ys n no_cursor

  abbrev rest_does : Bool → State → Ending
  rest_does b s = after (others_run p levels m from os (Signals b s)) go stop

  -- a signal that decides
  signal_decides : (b : Bool) (s : State) → is_settled o.0 b ≡ true → after (others_run p levels m from (o ∷ os) (Signals b s)) go stop ≡ rest_does b s
  signal_decides true s e = ap (λ r. after (others_run p levels m from os r) go stop) (joined_runs_settled p levels m from o true s e)
  signal_decides false s e = ap (λ r. after (others_run p levels m from os r) go stop) (joined_runs_settled p levels m from o false s e)

  joined_is : (b : Bool) (s : State) → is_settled o.0 b ≡ false → after (others_run p levels m from (o ∷ os) (Signals b s)) go stop ≡ after (others_run p levels m from os (then_on (put_back m from s) (runs p levels o.1 m))) go stop
  joined_is true s e = ap (λ r. after (others_run p levels m from os r) go stop) (open_still p levels m from o true s e)
  joined_is false s e = ap (λ r. after (others_run p levels m from os r) go stop) (open_still p levels m from o false s e)

  -- a signal after which the next command runs
  goes_back : (entry back : Instruction) → length ys ≡ 4 → Restores n entry back →
      PerformsAt tables (λ p levels. runs p levels o.1) 0 n rest.next.value rest.fail.value entry →
      GoesOn (flow p levels tables rest.next.value) m (suc n) ys (rest_does true) → GoesOn (flow p levels tables rest.fail.value) m (suc n) ys (rest_does false) →
      (b : Bool) → is_settled o.0 b ≡ false →
      GoesOn (flow p levels tables back) m (suc n) ys (λ s. after (others_run p levels m from (o ∷ os) (Signals b s)) go stop)
  goes_back entry back l r h g k b e zs a s =
      let D = λ (t : State). after (runs p levels o.1 m t) (rest_does true) (rest_does false) in
      r p levels tables m zs s
      ∙ ap (λ v. then_on (put_back m v s) (flow p levels tables entry m zs)) (a.same n (omega arith))
      ∙ then_same (put_back m from s) (flow p levels tables entry m zs) D (λ t at. h p levels m ys (rest_does true) (rest_does false) l g k zs a t (back_at m from s t at))
      ∙ back_passes m from s D (Signals false) (rest_does false)
      ∙ sym (after_after (put_back m from s) (runs p levels o.1 m) (Signals false) (rest_does true) (rest_does false))
      ∙ sym (others_split p levels m from os (then_on (put_back m from s) (runs p levels o.1 m)) go stop)
      ∙ sym (joined_is b s e)

-- before a command after `or`
pub rest_or :
    (tables : ℕ → Listing) (n : ℕ) (exits rest made : Exits) (o : JoinedView) (os : List JoinedView) (entry back : Instruction) → o.0 ≡ Or →
    PerformsAt tables (λ p levels. runs p levels o.1) 0 n rest.next.value rest.fail.value entry → Restores n entry back →
    made.next.value ≡ rest.next.value → made.fail.value ≡ back → IsRest tables n os exits rest → IsRest tables n (o ∷ os) exits made
rest_or tables n exits rest made o os entry back e h r x y is p levels m slots ys go stop l g k a =
    let q = is p levels m slots ys go stop l g k a in (
      λ zs b s. ap (λ i. flow p levels tables i m zs s) x ∙ q.0 zs b s ∙ sym (signal_decides tables n exits rest o os p levels m slots ys go stop true s (ap (λ j. is_settled j true) e)),
      λ zs b s. ap (λ i. flow p levels tables i m zs s) y ∙ goes_back tables n exits rest o os p levels m slots ys go stop entry back (a.as_many ∙ l) r h q.0 q.1 false (ap (λ j. is_settled j false) e) zs b s,
    )

-- before a command after `and`
pub rest_and :
    (tables : ℕ → Listing) (n : ℕ) (exits rest made : Exits) (o : JoinedView) (os : List JoinedView) (entry back : Instruction) → o.0 ≡ And →
    PerformsAt tables (λ p levels. runs p levels o.1) 0 n rest.next.value rest.fail.value entry → Restores n entry back →
    made.next.value ≡ back → made.fail.value ≡ rest.fail.value → IsRest tables n os exits rest → IsRest tables n (o ∷ os) exits made
rest_and tables n exits rest made o os entry back e h r x y is p levels m slots ys go stop l g k a =
    let q = is p levels m slots ys go stop l g k a in (
      λ zs b s. ap (λ i. flow p levels tables i m zs s) x ∙ goes_back tables n exits rest o os p levels m slots ys go stop entry back (a.as_many ∙ l) r h q.0 q.1 true (ap (λ j. is_settled j true) e) zs b s,
      λ zs b s. ap (λ i. flow p levels tables i m zs s) y ∙ q.1 zs b s ∙ sym (signal_decides tables n exits rest o os p levels m slots ys go stop false s (ap (λ j. is_settled j false) e)),
    )

-- a row whose cursor is saved, and what is left of it
pub saving_row :
    (tables : ℕ → Listing) (c : Meaning) (os : List JoinedView) (cost n : ℕ) (exits rest : Exits) (inner entry : Instruction) →
    n < 4 → Saves cost n inner entry →
    PerformsAt tables c 0 n rest.next.value rest.fail.value inner → IsRest tables n os exits rest →
    Performs tables (λ p levels m s. others_run p levels m (saved_cursor s) os (c p levels m s)) cost n exits.next.value exits.fail.value entry
saving_row tables c os cost n exits rest inner entry small saves h row p levels m slots go stop l g k ys a s =
    let d = λ (u : State). others_run p levels m (saved_cursor u) os (c p levels m u) in
    let inside = λ (u : State).
    let v = saved_cursor u in
    let zs = slice_set ys n v in
    let there = saved_there n slots ys v small l a in
    let at = λ (w : SavedCursor) (b : Bool) (t : State). after (others_run p levels m w os (Signals b t)) go stop in
    let q = row p levels m slots zs go stop l g k there.kept in
    h p levels m zs (at (slice_index_or zs n no_cursor) true) (at (slice_index_or zs n no_cursor) false) there.many q.0 q.1 zs (agree_self (suc n) zs) u (λ t. ap (λ w. put_back m w t) (sym there.got))
    ∙ ap (λ w. after (c p levels m u) (at w true) (at w false)) there.got
    ∙ sym (others_split p levels m v os (c p levels m u) go stop)
    in
    saves p levels tables m ys s
    ∙ after_same (pays cost s) (λ u. flow p levels tables inner m (slice_set ys n (saved_cursor u)) u) (Signals false) (λ u. after (d u) go stop) (Signals false) inside (λ u. refl)
    ∙ after_steps cost s d go stop go stop (λ t. refl) (λ t. refl)

-- one more group
pub performed_more : (tables : ℕ → Listing) (nodes : List Node) (n : ℕ) (exits : Exits) (groups : List GroupCode) (node : Node) (x : GroupCode) →
    ArePerformed tables nodes n exits groups → PerformsWithExits tables (λ p levels. runs p levels (view_node tables node)) 0 n exits (out-GroupCode x).first.value →
    ArePerformed tables (nodes ++ (node ∷ [])) n exits (groups ++ (x ∷ []))
performed_more tables nodes n exits [] node x are h = subst (λ ns. ArePerformed tables (ns ++ (node ∷ [])) n exits (x ∷ [])) (sym are) (h, refl)
performed_more tables [] n exits (g ∷ gs) node x are h = absurd are
performed_more tables (k ∷ ks) n exits (g ∷ gs) node x are h = (are.0, performed_more tables ks n exits gs node x are.1 h)
