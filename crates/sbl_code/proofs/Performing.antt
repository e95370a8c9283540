-- What instructions perform, by what they do first and what those after them perform.
use Rattle.std.proofs.Common.{◌≡◌, ◌≢◌, ℕ, ◌+◌, ◌<◌, zero, suc, Bool, true, false, List, [], ◌∷◌, length, map, Option, Some, None, refl, sym, ap, subst, ◌∙◌, arith, rules, get_or-set_same, get_or-set_other}
use Rattle.std.specs.Prelude.{slice_get, slice_set, slice_index_or}
use Rattle.std.specs.Option.{option_map_or}
use Rattle.std.proofs.Math.Path.{fun_ext}
use Rattle.std.proofs.lemmas.List.{length-set}
use Rattle.sbl_program.specs.AmongStrings.{Listing}
use Rattle.sbl_program.specs.Program as programs
use Rattle.sbl_program.specs.ProgramOf.{view_node, view_nodes}
use Rattle.sbl_program.specs.declared.node.Node.{Node}
use Rattle.sbl_program.specs.Rows.{pays}
use Rattle.sbl_program.specs.Run.{runs, runs_paid, nth_runs, group_runs}
use Rattle.sbl_semantics.specs.Choices.{choice}
use Rattle.sbl_semantics.specs.Control.{turns, pay_first}
use Rattle.sbl_semantics.specs.State.{State, Ending, Signals, Doing, after, then_on, pay, saved_cursor, put_back}
use Rattle.sbl_semantics.specs.declared.cursor.SavedCursor.{SavedCursor}
use Rattle.sbl_ast.specs.declared.mode.Mode.{Mode}
use Rattle.sbl_code.specs.declared.instruction.Instruction.{Instruction}
use Rattle.sbl_code.specs.declared.instruction.Instruction.TheFolds.{fold_out-Instruction, fold_out-GroupCode}
use Rattle.sbl_code.specs.declared.instruction.Instruction.TheViews.{the_lemmas}
use Rattle.sbl_code.specs.declared.instruction.GroupCode.{GroupCode, out-GroupCode}
use Rattle.sbl_code.specs.declared.assembler.Exits.{Exits}
use Rattle.sbl_code.specs.declared.assembler.Place.{Place}
use Rattle.sbl_code.specs.Slots.{no_cursor, no_cursors}
use Rattle.sbl_code.specs.Flow.{Flow, flow, group_flow, alone, chosen_flow, do_of, fail_of, turns_of, wrapped_of}
use Rattle.sbl_code.specs.Performs.{Agree, GoesOn, Leaves, Meaning, Performs, PerformsAt, Ends, Restores, Saves, Runs, IsPlaced, IsPlace, ArePerformed}
use Rattle.sbl_code.proofs.Endings.{after_after, after_same, as_it_is, Passes, passes_then, pay_passes, pays_pass, back_passes, own_step, steps_more}

-- ---- slots

pub agree_self : (n : ℕ) (xs : List SavedCursor) → Agree n xs xs
agree_self n xs = record { as_many = refl; same = λ j l. refl }

pub agree_then : (n : ℕ) (xs ys zs : List SavedCursor) → Agree n xs ys → Agree n ys zs → Agree n xs zs
agree_then n xs ys zs a b = record { as_many = b.as_many ∙ a.as_many; same = λ j l. b.same j l ∙ a.same j l }

pub agree_fewer : (n : ℕ) (xs ys : List SavedCursor) → Agree (suc n) xs ys → Agree n xs ys
agree_fewer n xs ys a = record { as_many = a.as_many; same = λ j l. a.same j (omega arith) }

-- a cursor saved in slot n leaves the slots before it
pub agree_set : (n : ℕ) (xs : List SavedCursor) (v : SavedCursor) → Agree n xs (slice_set xs n v)
agree_set n xs v = record {
  as_many = length-set xs n v;
  same = λ j l. let ne : j ≢ n = omega arith in get_or-set_other xs n j v no_cursor ne;
}

-- the slots after a cursor is saved in slot n
pub record SavedThere (n : ℕ) (slots zs : List SavedCursor) (v : SavedCursor) : Type 0 where
  pub kept : Agree n slots zs
  pub many : length zs ≡ 4
  pub got : slice_index_or zs n no_cursor ≡ v

pub saved_there : (n : ℕ) (slots ys : List SavedCursor) (v : SavedCursor) → n < 4 → length slots ≡ 4 → Agree n slots ys → SavedThere n slots (slice_set ys n v) v
saved_there n slots ys v small l a =
    let room : n < length ys = omega (arith, a.as_many, l, small) in
    record {
      kept = agree_then n slots ys (slice_set ys n v) a (agree_set n ys v);
      many = length-set ys n v ∙ a.as_many ∙ l;
      got = get_or-set_same ys n v no_cursor room;
    }

-- ---- going on

pub goes_with : (f : Flow) (m : Mode) (n : ℕ) (xs ys : List SavedCursor) (go : State → Ending) → Agree n xs ys → GoesOn f m n xs go → GoesOn f m n ys go
goes_with f m n xs ys go a g zs b s = g zs (agree_then n xs ys zs a b) s

pub goes_deeper : (f : Flow) (m : Mode) (n : ℕ) (xs ys : List SavedCursor) (go : State → Ending) → Agree n xs ys → GoesOn f m n xs go → GoesOn f m (suc n) ys go
goes_deeper f m n xs ys go a g zs b s = g zs (agree_then n xs ys zs a (agree_fewer n ys zs b)) s

pub goes_same : (f : Flow) (m : Mode) (n : ℕ) (xs : List SavedCursor) (go to : State → Ending) → GoesOn f m n xs go → ((s : State) → go s ≡ to s) → GoesOn f m n xs to
goes_same f m n xs go to g p ys a s = g ys a s ∙ p s

-- steps, and then something whose ends are known
pub after_steps : (cost : ℕ) (s : State) (d : State → Ending) (a b go stop : State → Ending) → ((t : State) → a t ≡ go t) → ((t : State) → b t ≡ stop t) → then_on (pays cost s) (λ u. after (d u) a b) ≡ after (then_on (pays cost s) d) go stop
after_steps cost s d a b go stop p q =
    after_same (pays cost s) (λ u. after (d u) a b) (Signals false) (λ u. after (d u) go stop) (Signals false) (λ u. after_same (d u) a b go stop p q) (λ u. refl)
    ∙ pays_pass cost s (λ u. after (d u) go stop) (Signals false) (λ u. after (Signals false u) go stop)
    ∙ sym (after_after (pays cost s) d (Signals false) go stop)

-- an instruction that acts and goes on
pub performs_act :
    (tables : ℕ → Listing) (d : Meaning) (cost : ℕ) (next fail entry : Instruction) →
    ((p : programs.Program) (levels : ℕ) (m : Mode) (ys : List SavedCursor) (s : State) →
    flow p levels tables entry m ys s ≡ then_on (pays cost s) (λ u. after (d p levels m u) (flow p levels tables next m ys) (flow p levels tables fail m ys))) →
    (n : ℕ) → Performs tables d cost n next fail entry
performs_act tables d cost next fail entry is n p levels m slots go stop l g h ys a s =
    is p levels m ys s ∙ after_steps cost s (d p levels m) (flow p levels tables next m ys) (flow p levels tables fail m ys) go stop (g ys a) (h ys a)

-- the same, for links to equal instructions
pub emitted_at :
    (tables : ℕ → Listing) (d : Meaning) (cost : ℕ) (a b next fail entry : Instruction) → a ≡ next → b ≡ fail →
    ((p : programs.Program) (levels : ℕ) (m : Mode) (ys : List SavedCursor) (s : State) →
    flow p levels tables entry m ys s ≡ then_on (pays cost s) (λ u. after (d p levels m u) (flow p levels tables a m ys) (flow p levels tables b m ys))) →
    (n : ℕ) → Performs tables d cost n next fail entry
emitted_at tables d cost a b next fail entry x y is =
    performs_act tables d cost next fail entry
    (λ p levels m ys s.
    is p levels m ys s
    ∙ ap (λ i. then_on (pays cost s) (λ u. after (d p levels m u) (flow p levels tables i m ys) (flow p levels tables b m ys))) x
    ∙ ap (λ i. then_on (pays cost s) (λ u. after (d p levels m u) (flow p levels tables next m ys) (flow p levels tables i m ys))) y)

-- an instruction that only goes on
pub performs_skip :
    (tables : ℕ → Listing) (cost : ℕ) (next fail entry : Instruction) →
    ((p : programs.Program) (levels : ℕ) (m : Mode) (ys : List SavedCursor) (s : State) → flow p levels tables entry m ys s ≡ then_on (pays cost s) (flow p levels tables next m ys)) →
    (n : ℕ) → Performs tables (λ p levels m s. Signals true s) cost n next fail entry
performs_skip tables cost next fail entry is n = performs_act tables (λ p levels m s. Signals true s) cost next fail entry is n

-- the same instruction, for a meaning that is equal
pub same_meaning :
    (tables : ℕ → Listing) (d e : Meaning) (cost n : ℕ) (next fail entry : Instruction) →
    ((p : programs.Program) (levels : ℕ) (m : Mode) (s : State) → d p levels m s ≡ e p levels m s) →
    Performs tables d cost n next fail entry → Performs tables e cost n next fail entry
same_meaning tables d e cost n next fail entry q h p levels m slots go stop l g k ys a s =
    h p levels m slots go stop l g k ys a s
    ∙ ap (λ r. after r go stop) (after_same (pays cost s) (d p levels m) (Signals false) (e p levels m) (Signals false) (q p levels m) (λ u. refl))

-- the last step before it, as its first step
pub first_step :
    (tables : ℕ → Listing) (d : Meaning) (cost more n : ℕ) (next fail entry : Instruction) → more ≡ cost + 1 →
    Performs tables d more n next fail entry → Performs tables (λ p levels. pay_first (d p levels)) cost n next fail entry
first_step tables d cost more n next fail entry is h p levels m slots go stop l g k ys a s =
    let e : more ≡ suc cost = omega (arith, is) in
    h p levels m slots go stop l g k ys a s
    ∙ ap (λ j. after (then_on (pays j s) (d p levels m)) go stop) e
    ∙ ap (λ r. after r go stop) (own_step cost s (d p levels) m)

-- the last steps before it, as its first steps
pub first_steps :
    (tables : ℕ → Listing) (d : Meaning) (cost k more n : ℕ) (next fail entry : Instruction) → more ≡ cost + k →
    Performs tables d more n next fail entry → Performs tables (λ p levels m s. then_on (pays k s) (d p levels m)) cost n next fail entry
first_steps tables d cost k more n next fail entry is h p levels m slots go stop l g w ys a s =
    h p levels m slots go stop l g w ys a s
    ∙ ap (λ j. after (then_on (pays j s) (d p levels m)) go stop) is
    ∙ ap (λ r. after r go stop) (steps_more cost k s (d p levels m))

-- one after another
pub in_turn :
    (tables : ℕ → Listing) (c d : Meaning) (cost n : ℕ) (next fail middle entry : Instruction) →
    Performs tables c cost n middle fail entry → Performs tables d 0 n next fail middle →
    Performs tables (λ p levels m s. after (c p levels m s) (d p levels m) (Signals false)) cost n next fail entry
in_turn tables c d cost n next fail middle entry h k p levels m slots go stop l g w ys a s =
    h p levels m slots (λ t. after (d p levels m t) go stop) stop l (k p levels m slots go stop l g w) w ys a s
    ∙ after_after (pays cost s) (c p levels m) (Signals false) (λ t. after (d p levels m t) go stop) stop
    ∙ after_same (pays cost s) (λ u. after (c p levels m u) (λ t. after (d p levels m t) go stop) stop) (λ u. stop u) (λ u. after (after (c p levels m u) (d p levels m) (Signals false)) go stop) (λ u. stop u) (λ u. sym (after_after (c p levels m u) (d p levels m) (Signals false) go stop)) (λ u. refl)
    ∙ sym (after_after (pays cost s) (λ u. after (c p levels m u) (d p levels m) (Signals false)) (Signals false) go stop)

-- ---- saved cursors

pub leaves_next : (tables : ℕ → Listing) (n : ℕ) (next fail own : Instruction) → own ≡ next → Leaves tables n next fail own (λ m from. Signals true)
leaves_next tables n next fail own e p levels m slots ys go stop g h a zs b s =
    ap (λ x. flow p levels tables x m zs s) e ∙ goes_deeper (flow p levels tables next) m n slots ys go a g zs b s

pub leaves_fail : (tables : ℕ → Listing) (n : ℕ) (next fail own : Instruction) → own ≡ fail → Leaves tables n next fail own (λ m from. Signals false)
leaves_fail tables n next fail own e p levels m slots ys go stop g h a zs b s =
    ap (λ x. flow p levels tables x m zs s) e ∙ goes_deeper (flow p levels tables fail) m n slots ys stop a h zs b s

pub leaves_back : (tables : ℕ → Listing) (n : ℕ) (next fail own : Instruction) → Restores n next own → Leaves tables n next fail own put_back
leaves_back tables n next fail own r p levels m slots ys go stop g h a zs b s =
    let from = slice_index_or ys n no_cursor in
    r p levels tables m zs s
    ∙ ap (λ v. then_on (put_back m v s) (flow p levels tables next m zs)) (b.same n (omega arith))
    ∙ after_same (put_back m from s) (flow p levels tables next m zs) (Signals false) go (Signals false) (goes_deeper (flow p levels tables next) m n slots ys go a g zs b) (λ u. refl)
    ∙ back_passes m from s go (Signals false) stop

pub saving :
    (tables : ℕ → Listing) (c : Meaning) (on_t on_f : Mode → SavedCursor → State → Ending) (cost n : ℕ) (next fail own_next own_fail inner entry : Instruction) →
    n < 4 → Saves cost n inner entry →
    PerformsAt tables c 0 n own_next own_fail inner →
    Leaves tables n next fail own_next on_t → Leaves tables n next fail own_fail on_f →
    Performs tables (λ p levels. wrapped_of on_t on_f (c p levels)) cost n next fail entry
saving tables c on_t on_f cost n next fail own_next own_fail inner entry small saves h lt lf p levels m slots go stop l g k ys a s =
    let d = λ (u : State). wrapped_of on_t on_f (c p levels) m u in
    let inside = λ (u : State).
    let v = saved_cursor u in
    let zs = slice_set ys n v in
    let there = saved_there n slots ys v small l a in
    h p levels m zs (λ t. after (on_t m (slice_index_or zs n no_cursor) t) go stop) (λ t. after (on_f m (slice_index_or zs n no_cursor) t) go stop) there.many
    (lt p levels m slots zs go stop g k there.kept) (lf p levels m slots zs go stop g k there.kept) zs (agree_self (suc n) zs) u (λ t. ap (λ w. put_back m w t) (sym there.got))
    ∙ ap (λ w. after (c p levels m u) (λ t. after (on_t m w t) go stop) (λ t. after (on_f m w t) go stop)) there.got
    ∙ sym (after_after (c p levels m u) (on_t m v) (on_f m v) go stop)
    in
    saves p levels tables m ys s
    ∙ after_same (pays cost s) (λ u. flow p levels tables inner m (slice_set ys n (saved_cursor u)) u) (Signals false) (λ u. after (d u) go stop) (Signals false) inside (λ u. refl)
    ∙ after_steps cost s d go stop go stop (λ t. refl) (λ t. refl)

-- ---- instructions that run by themselves

pub by_itself :
    (tables : ℕ → Listing) (d : Meaning) (next fail entry : Instruction) → Ends true next → Ends false fail →
    Performs tables d 0 0 next fail entry → Runs tables d entry
by_itself tables d next fail entry e f h p levels m s =
    h p levels m no_cursors (Signals true) (Signals false) refl (λ ys a t. e p levels tables m ys t) (λ ys a t. f p levels tables m ys t) no_cursors (agree_self 0 no_cursors) s
    ∙ as_it_is (d p levels m s)

-- as functions
pub runs_as : (tables : ℕ → Listing) (d : Meaning) (entry : Instruction) → Runs tables d entry → (p : programs.Program) (levels : ℕ) → alone (flow p levels tables entry) ≡ d p levels
runs_as tables d entry h p levels = fun_ext (λ m. fun_ext (λ s. h p levels m s))

-- something made of them
pub made_of :
    (tables : ℕ → Listing) (of : programs.Program → ℕ → Doing → Doing) (d : Meaning) (body : Instruction) (cost n : ℕ) (next fail entry : Instruction) → Runs tables d body →
    Performs tables (λ p levels. pay_first (of p levels (alone (flow p levels tables body)))) cost n next fail entry →
    Performs tables (λ p levels. pay_first (of p levels (d p levels))) cost n next fail entry
made_of tables of d body cost n next fail entry r h =
    same_meaning tables (λ p levels. pay_first (of p levels (alone (flow p levels tables body)))) (λ p levels. pay_first (of p levels (d p levels))) cost n next fail entry
    (λ p levels m s. ap (λ c. pay_first (of p levels c) m s) (runs_as tables d body r p levels)) h

-- ---- commands

-- what a command does after its own step
abbrev pub Does : (ℕ → Listing) → Meaning → Node → Type 0
Does tables d x = (p : programs.Program) (levels : ℕ) (m : Mode) (s : State) → runs_paid p levels (view_node tables x) m s ≡ d p levels m s

pub arm_means :
    (tables : ℕ → Listing) (d : Meaning) (node x : Node) → node ≡ x → Does tables d x →
    (p : programs.Program) (levels : ℕ) (m : Mode) (s : State) → pay_first (d p levels) m s ≡ runs p levels (view_node tables node) m s
arm_means tables d node x e q p levels m s =
    ap (λ f. then_on (pay s.steps s) f) (fun_ext (λ u. sym (q p levels m u))) ∙ ap (λ y. runs p levels (view_node tables y) m s) (sym e)

-- the instructions of a command, by what it does after its own step
pub arm :
    (tables : ℕ → Listing) (d : Meaning) (node x : Node) (cost n : ℕ) (next fail entry : Instruction) → node ≡ x → Does tables d x →
    Performs tables (λ p levels. pay_first (d p levels)) cost n next fail entry → Performs tables (λ p levels. runs p levels (view_node tables node)) cost n next fail entry
arm tables d node x cost n next fail entry e q = same_meaning tables (λ p levels. pay_first (d p levels)) (λ p levels. runs p levels (view_node tables node)) cost n next fail entry (arm_means tables d node x e q)

-- one step, and then a command
pub one_step :
    (tables : ℕ → Listing) (d : Meaning) (cost n : ℕ) (next fail entry : Instruction) →
    Performs tables (λ p levels m s. then_on (pays 1 s) (d p levels m)) cost n next fail entry → Performs tables (λ p levels. pay_first (d p levels)) cost n next fail entry
one_step tables d cost n next fail entry =
    same_meaning tables (λ p levels m s. then_on (pays 1 s) (d p levels m)) (λ p levels. pay_first (d p levels)) cost n next fail entry (λ p levels m s. own_step 0 s (d p levels) m)

-- whatever it signals, f
pub failing :
    (tables : ℕ → Listing) (c : Meaning) (cost n : ℕ) (next fail a b entry : Instruction) → a ≡ fail → b ≡ fail →
    Performs tables c cost n a b entry → Performs tables (λ p levels. fail_of (c p levels)) cost n next fail entry
failing tables c cost n next fail a b entry x y h p levels m slots go stop l g k ys w s =
    let g' = λ (zs : List SavedCursor) (v : Agree n slots zs) (t : State). ap (λ i. flow p levels tables i m zs t) x ∙ k zs v t in
    let k' = λ (zs : List SavedCursor) (v : Agree n slots zs) (t : State). ap (λ i. flow p levels tables i m zs t) y ∙ k zs v t in
    h p levels m slots stop stop l g' k' ys w s
    ∙ after_after (pays cost s) (c p levels m) (Signals false) stop stop
    ∙ after_same (pays cost s) (λ u. after (c p levels m u) stop stop) stop (λ u. after (fail_of (c p levels) m u) go stop) stop (λ u. sym (after_after (c p levels m u) (Signals false) (Signals false) go stop)) (λ u. refl)
    ∙ sym (after_after (pays cost s) (fail_of (c p levels) m) (Signals false) go stop)

turns_pass : (n : ℕ) (c : Doing) (m : Mode) (s : State) → Passes (turns n c m s)
turns_pass zero c m s u v w = refl
turns_pass (suc n) c m s u v w =
    let f = put_back m (saved_cursor s) in
    after_after (c m s) (turns n c m) f u v
    ∙ after_same (c m s) (λ t. after (turns n c m t) u v) (λ t. after (f t) u v) (λ t. after (turns n c m t) u w) (λ t. after (f t) u w) (λ t. turns_pass n c m t u v w) (λ t. back_passes m (saved_cursor s) t u v w)
    ∙ sym (after_after (c m s) (turns n c m) f u w)

-- `repeat` does not signal f
pub repeating : (c : Doing) (m : Mode) (s : State) → Passes (pay_first (turns_of c) m s)
repeating c m s = passes_then (pay s.steps s) (turns_of c m) (pay_passes s.steps s) (λ u. turns_pass (suc u.steps) c m u)

do_of_passes : (c : Doing) (m : Mode) (s : State) → Passes (do_of c m s)
do_of_passes c m s u v w =
    let f = put_back m (saved_cursor s) in
    after_after (c m s) f f u v
    ∙ after_same (c m s) (λ t. after (f t) u v) (λ t. after (f t) u v) (λ t. after (f t) u w) (λ t. after (f t) u w) (λ t. back_passes m (saved_cursor s) t u v w) (λ t. back_passes m (saved_cursor s) t u v w)
    ∙ sym (after_after (c m s) f f u w)

-- `do` does not signal f
pub do_passes : (c : Doing) (m : Mode) (s : State) → Passes (pay_first (do_of c) m s)
do_passes c m s = passes_then (pay s.steps s) (do_of c m) (pay_passes s.steps s) (λ u. do_of_passes c m u)

-- a step moves no cursor, so `do` may save it before or after the step of its command
step_in_do : (n : ℕ) (c : Doing) (m : Mode) (s : State) → then_on (pay n s) (do_of c m) ≡ after (then_on (pay n s) (c m)) (put_back m (saved_cursor s)) (put_back m (saved_cursor s))
step_in_do zero c m s = refl
step_in_do (suc n) c m s = refl

-- `do` of a command, by what the command does after its own step
pub do_arm :
    (tables : ℕ → Listing) (d : Meaning) (node x : Node) (cost n : ℕ) (next fail entry : Instruction) → node ≡ x → Does tables d x →
    Performs tables (λ p levels. pay_first (pay_first (do_of (d p levels)))) cost n next fail entry →
    Performs tables (λ p levels. pay_first (do_of (runs p levels (view_node tables node)))) cost n next fail entry
do_arm tables d node x cost n next fail entry e q =
    let run = λ (p : programs.Program) (levels : ℕ). runs p levels (view_node tables node) in
    same_meaning tables (λ p levels. pay_first (pay_first (do_of (d p levels)))) (λ p levels. pay_first (do_of (run p levels))) cost n next fail entry
    (λ p levels m s.
    after_same (pay s.steps s) (pay_first (do_of (d p levels)) m) (Signals false) (do_of (run p levels) m) (Signals false)
    (λ u. step_in_do u.steps (d p levels) m u ∙ ap (λ r. after r (put_back m (saved_cursor u)) (put_back m (saved_cursor u))) (arm_means tables d node x e q p levels m u)) (λ u. refl))

-- ---- where a command saves the cursor

placed_at : (b c : Bool) (cost own slot : ℕ) (exits : Exits) (place : Place) → b ≡ c → IsPlaced b cost own slot exits place → IsPlaced c cost own slot exits place
placed_at b c cost own slot exits place e h = subst (λ x. IsPlaced x cost own slot exits place) e h

pub here_place :
    (tables : ℕ → Listing) (d : Meaning) (cost own slot : ℕ) (exits : Exits) (place : Place) (entry : Instruction) → IsPlace cost own slot exits place → place.nested ≡ false →
    Performs tables d place.cost place.slot place.exits.next.value place.exits.fail.value entry →
    Performs tables (λ p levels m s. then_on (pays own s) (d p levels m)) cost slot exits.next.value exits.fail.value entry
here_place tables d cost own slot exits place entry is unless h =
    let q = placed_at place.nested false cost own slot exits place unless is.2 in
    let h1 = subst (λ n. Performs tables d place.cost n place.exits.next.value place.exits.fail.value entry) q.0 h in
    let h2 = subst (λ x. Performs tables d place.cost slot x place.exits.fail.value entry) q.2 h1 in
    let h3 = subst (λ x. Performs tables d place.cost slot exits.next.value x entry) q.3 h2 in
    first_steps tables d cost own place.cost slot exits.next.value exits.fail.value entry q.1 h3

pub nested_place :
    (tables : ℕ → Listing) (d : Meaning) (cost own slot : ℕ) (exits : Exits) (place : Place) (entry made : Instruction) → IsPlace cost own slot exits place → place.nested ≡ true →
    Performs tables d place.cost place.slot place.exits.next.value place.exits.fail.value entry →
    ((n : ℕ) → Performs tables (λ p levels. pay_first (alone (flow p levels tables entry))) cost n exits.next.value exits.fail.value made) →
    Performs tables (λ p levels m s. then_on (pays own s) (d p levels m)) cost slot exits.next.value exits.fail.value made
nested_place tables d cost own slot exits place entry made is when h k =
    let q = placed_at place.nested true cost own slot exits place when is.2 in
    let c : Meaning = λ p levels m s. then_on (pays place.cost s) (d p levels m) in
    let h1 = subst (λ n. Performs tables d place.cost n place.exits.next.value place.exits.fail.value entry) q.0 h in
    let none : place.cost ≡ 0 + place.cost = omega arith in
    let h2 = first_steps tables d 0 place.cost place.cost 0 place.exits.next.value place.exits.fail.value entry none h1 in
    let r = by_itself tables c place.exits.next.value place.exits.fail.value entry q.2 q.3 h2 in
    let one : suc place.cost ≡ own = omega (arith, q.1) in
    same_meaning tables (λ p levels. pay_first (c p levels)) (λ p levels m s. then_on (pays own s) (d p levels m)) cost slot exits.next.value exits.fail.value made
    (λ p levels m s. sym (after_after (pay s.steps s) (pays place.cost) (Signals false) (d p levels m) (Signals false)) ∙ ap (λ j. then_on (pays j s) (d p levels m)) one)
    (made_of tables (λ p levels x. x) c entry cost slot exits.next.value exits.fail.value made r (k slot))

-- ---- the groups of an among

module _ (tables : ℕ → Listing) (p : programs.Program) (levels n : ℕ) (exits : Exits) (m : Mode) (slots : List SavedCursor) (go stop : State → Ending) where
  group_is : (x : GroupCode) → group_flow p levels tables x ≡ flow p levels tables (out-GroupCode x).first.value
  group_is x = first_of (search (rules, the_lemmas), search (rules, the_lemmas, fold_out-GroupCode, fold_out-Instruction))

  nth_group :
      length slots ≡ 4 → GoesOn (flow p levels tables exits.next.value) m n slots go → GoesOn (flow p levels tables exits.fail.value) m n slots stop →
      (nodes : List Node) (groups : List GroupCode) (g : ℕ) → ArePerformed tables nodes n exits groups →
      (ys : List SavedCursor) → Agree n slots ys → (u : State) →
      option_map_or (λ f. f) (slice_get (map (group_flow p levels tables) groups) g) (flow p levels tables exits.next.value) m ys u ≡ after (nth_runs p levels (view_nodes tables nodes) g m u) go stop
  nth_group l h k nodes [] g are ys a u = h ys a u ∙ ap (λ ns. after (nth_runs p levels (view_nodes tables ns) g m u) go stop) (sym are)
  nth_group l h k [] (x ∷ xs) g are ys a u = absurd are
  nth_group l h k (node ∷ nodes) (x ∷ xs) zero are ys a u = ap (λ f. f m ys u) (group_is x) ∙ are.0 p levels m slots go stop l h k ys a u
  nth_group l h k (node ∷ nodes) (x ∷ xs) (suc g) are ys a u = nth_group l h k nodes xs g are.1 ys a u

  pub chosen_group :
      length slots ≡ 4 → GoesOn (flow p levels tables exits.next.value) m n slots go → GoesOn (flow p levels tables exits.fail.value) m n slots stop →
      (nodes : List Node) (groups : List GroupCode) (o : Option ℕ) → ArePerformed tables nodes n exits groups →
      (ys : List SavedCursor) → Agree n slots ys → (u : State) →
      chosen_flow o (map (group_flow p levels tables) groups) (flow p levels tables exits.next.value) (flow p levels tables exits.fail.value) m ys u ≡ after (group_runs p levels (view_nodes tables nodes) o m u) go stop
  chosen_group l h k nodes groups None are ys a u = k ys a u
  chosen_group l h k nodes groups (Some g) are ys a u = nth_group l h k nodes groups g are ys a u

pub choosing :
    (tables : ℕ → Listing) (cost among n : ℕ) (exits : Exits) (nodes : List Node) (groups : List GroupCode) (a b made : Instruction) → a ≡ exits.next.value → b ≡ exits.fail.value →
    ((p : programs.Program) (levels : ℕ) (m : Mode) (ys : List SavedCursor) (s : State) →
    flow p levels tables made m ys s ≡ then_on (pays cost s) (λ u. chosen_flow (choice among u) (map (group_flow p levels tables) groups) (flow p levels tables a) (flow p levels tables b) m ys u)) →
    ArePerformed tables nodes n exits groups →
    Performs tables (λ p levels m t. group_runs p levels (view_nodes tables nodes) (choice among t) m t) cost n exits.next.value exits.fail.value made
choosing tables cost among n exits nodes groups a b made x y is are p levels m slots go stop l h k ys w s =
    let gs = map (group_flow p levels tables) groups in
    let d = λ (u : State). group_runs p levels (view_nodes tables nodes) (choice among u) m u in
    is p levels m ys s
    ∙ ap (λ i. then_on (pays cost s) (λ u. chosen_flow (choice among u) gs (flow p levels tables i) (flow p levels tables b) m ys u)) x
    ∙ ap (λ i. then_on (pays cost s) (λ u. chosen_flow (choice among u) gs (flow p levels tables exits.next.value) (flow p levels tables i) m ys u)) y
    ∙ after_same (pays cost s) (λ u. chosen_flow (choice among u) gs (flow p levels tables exits.next.value) (flow p levels tables exits.fail.value) m ys u) (Signals false) (λ u. after (d u) go stop) (Signals false)
    (λ u. chosen_group tables p levels n exits m slots go stop l h k nodes groups (choice among u) are ys w u) (λ u. refl)
    ∙ after_steps cost s d go stop go stop (λ t. refl) (λ t. refl)
