-- Each search of a run takes the first of the strings that fit.
use Rattle.std.proofs.Common.{subst, ◌≡◌, ◌+◌, ℕ, zero, suc, Bool, true, false, List, [], Option, Some, None, Ok, refl, sym, ap, ◌∙◌, inl, inr, arith}
use Rattle.std.specs.Prelude.{if◌then◌else◌, slice_index_or}
use Rattle.sbl_ast.specs.declared.tree.DeclarationKind.TheVariants as kinds
use Rattle.sbl_ast.specs.declared.tree.Simple.{Simple}
use Rattle.sbl_ast.specs.declared.tree.Simple.TheVariants as simples
use Rattle.sbl_ast.specs.declared.tree.Splice.{Splice}
use Rattle.sbl_ast.specs.Tree as trees
use Rattle.sbl_ast.specs.Tree.{bracket, simple_, literal_, name_, non_, prefixed, counted, move_, named, splice_, setlimit_, assign_, compare_, compare_values_, among_, no_rows, row, no_others, joined, no_starter, starter, bare, group}
use Rattle.sbl_ast.specs.declared.mode.Mode.{Mode}
use Rattle.sbl_semantics.specs.Items.{DeclaredNames, Body, place_of, is_member}
use Rattle.sbl_semantics.specs.Regions.{among_at, number_after, number_after_rows, number_after_others, number_after_starter, first, first_rows, first_others, waits, waits_others}
use Rattle.sbl_semantics.specs.Landmarks.{Among, mode_under}
use Rattle.sbl_semantics.specs.Moves.{touch_grouping}
use Rattle.sbl_semantics.specs.Numbers.{Value, integer_at}
use Rattle.sbl_semantics.specs.Control.{with_group, pay_first}
use Rattle.sbl_semantics.specs.Choices.{choice}
use Rattle.sbl_semantics.specs.State.{State, Ending, Signals, Doing}
use Rattle.sbl_semantics.specs.Meaning as meaning
use Rattle.sbl_semantics.specs.inside.RegionRuns as regions
use Rattle.sbl_semantics.specs.inside.MeaningParts as parts
use Rattle.sbl_semantics.specs.Meaning.{counted_does, joined_does, simple_does, moved_does, assigned_does, compared_does, edited_does, search}
use Rattle.sbl_semantics.specs.inside.MeaningParts.{begins}
use Rattle.sbl_machine.proofs.Steps.{more}
use Rattle.sbl_machine.proofs.StepsActs.{text_more, worth_more}
use Rattle.sbl_uses.specs.TreeAmongs.{HasAmong, IsIn, IsInGroups, IsInOthers, IsInRows, IsInStarter}
use Rattle.sbl_uses.proofs.FirstAmongs.{first_is, none_is, others_are, rows_are}
use Rattle.sbl_uses.proofs.RunParts.{Any_refusal, Family, GoodIn, Part, Some_end, at, forget, if_part, part_same, signals_good}
use Rattle.sbl_uses.proofs.Onward.{after_part, paid_good}
use Rattle.sbl_uses.proofs.Commands.{Unended, assigned_good, class_good, compared_good, edited_good, match_good, moved_good, named_good, simple_good, still}
use Rattle.sbl_uses.proofs.Compounds.{begins_good, chosen_good, counted_good, joined_good, limited_good, paid_pays, prefixed_good}
use Rattle.sbl_uses.proofs.SearchesEnd.{Called, CallsAre, search_paid}

-- ---- values do not depend on the steps

-- what any further steps leave is the same after any number of steps
with_steps : {A : Type 0} (f : State → A) → ((k : ℕ) (s : State) → f (more k s) ≡ f s) → (k : ℕ) (s : State) → f (at k s) ≡ f s
with_steps f same k s =
    sym (same 0 (at k s)) ∙ ap (λ (n : ℕ). f (record s { steps = n; events = None })) (turned k)
    ∙ same k (at 0 s) ∙ sym (same s.steps (at 0 s))
    ∙ sym (ap (λ (n : ℕ). f (record s { steps = n; events = None })) (turned s.steps)) ∙ same 0 s
  where
    turned : (n : ℕ) → n + 0 ≡ 0 + n
    turned n = omega arith

text_at : (ns : DeclaredNames) (a : trees.Argument) (k : ℕ) (s : State) → meaning.text ns a (at k s) ≡ meaning.text ns a s
text_at ns a = with_steps (meaning.text ns a) (text_more ns a)

worth_at : (ns : DeclaredNames) (m : Mode) (k : ℕ) (s : State) (e : trees.Expression) → meaning.worth ns e m (at k s) ≡ meaning.worth ns e m s
worth_at ns m k s e = with_steps (λ t. meaning.worth ns e m t) (λ j t. worth_more ns m j t e) k s

module _ (ns : DeclaredNames) (class : List ℕ → ℕ → Bool) (bodies : List ℕ → Option Body) where
  module _ (call : List ℕ → Doing) (r : ℕ) (calls : CallsAre ns bodies r call) where
    abbrev GoodDoing : Doing → Type 0
    GoodDoing = GoodIn ns bodies r

    -- the routine has this among
    abbrev Has : Among → Type 0
    Has a = HasAmong ns bodies r a

    call_good : (x : List ℕ) → GoodDoing (call x)
    call_good x m s = forget ns bodies r (Called ns bodies r x s) (Unended ns bodies r) s (λ n. call x m (at n s)) s.steps (calls x m s)

    search_good : (a : Among) → Has a → GoodDoing (pay_first (search call a))
    search_good a p m s = search_paid ns bodies r call calls a m s (λ e. subst (λ i. HasAmong ns bodies i a) (sym e) p) s.steps

    pays : (d : Doing) → GoodDoing d → GoodDoing (pay_first d)
    pays d i = paid_good ns bodies r d i

    ahead_good : (n : Option Among) → ((a : Among) → n ≡ Some a → Has a) → GoodDoing (pay_first (parts.search_ahead ns class call n))
    ahead_good None q = pays (parts.search_ahead ns class call None) (λ m s. still ns bodies r s s false refl refl refl)
    ahead_good (Some a) q = search_good a (q a refl)

    simple_paid : (n : Option Among) → ((a : Among) → n ≡ Some a → Has a) → (y : Simple) → GoodDoing (pay_first (simple_does (parts.search_ahead ns class call n) y))
    simple_paid n q simples.Substring = ahead_good n q
    simple_paid n q simples.LeftBracket = pays _ (simple_good ns bodies r (parts.search_ahead ns class call n) simples.LeftBracket tt)
    simple_paid n q simples.RightBracket = pays _ (simple_good ns bodies r (parts.search_ahead ns class call n) simples.RightBracket tt)
    simple_paid n q simples.Next = pays _ (simple_good ns bodies r (parts.search_ahead ns class call n) simples.Next tt)
    simple_paid n q simples.ToLimit = pays _ (simple_good ns bodies r (parts.search_ahead ns class call n) simples.ToLimit tt)
    simple_paid n q simples.AtLimit = pays _ (simple_good ns bodies r (parts.search_ahead ns class call n) simples.AtLimit tt)
    simple_paid n q simples.Delete = pays _ (simple_good ns bodies r (parts.search_ahead ns class call n) simples.Delete tt)
    simple_paid n q simples.True = pays _ (simple_good ns bodies r (parts.search_ahead ns class call n) simples.True tt)
    simple_paid n q simples.False = pays _ (simple_good ns bodies r (parts.search_ahead ns class call n) simples.False tt)

    either : (s : State) (b : Bool) (x y : Family) → Part ns bodies r s x s.steps → Part ns bodies r s y s.steps → Part ns bodies r s (λ n. if b then x n else y n) s.steps
    either s b x y h i = if_part ns bodies r (Some_end ns bodies r) (Any_refusal ns bodies r) s s.steps b x y h i

    name_good : (x : List ℕ) → GoodDoing (meaning.name_does ns class call x)
    name_good x m s =
        let g = touch_grouping (place_of (ns kinds.Groupings) x) s in
        either s (is_member (ns kinds.Strings) x) _ _ (match_good ns bodies r (slice_index_or s.strings (place_of (ns kinds.Strings) x) []) m s)
        (either s (is_member (ns kinds.Booleans) x) _ _ (still ns bodies r s s (slice_index_or s.booleans (place_of (ns kinds.Booleans) x) false) refl refl refl)
        (either s (is_member (ns kinds.Groupings) x) _ _ (class_good ns bodies r true (class x) m g) (call_good x m s)))

    -- the same with a value that is worked out at the beginning
    by_value : (s : State) (f : Value → State → Ending) (v : Value) (w : ℕ → Value) → ((n : ℕ) → w n ≡ v) → Part ns bodies r s (λ n. f v (at n s)) s.steps → Part ns bodies r s (λ n. f (w n) (at n s)) s.steps
    by_value s f v w e h =
        part_same ns bodies r (Some_end ns bodies r) (Any_refusal ns bodies r) s (λ n. f v (at n s)) (λ n. f (w n) (at n s)) s.steps (λ n l. ap (λ x. f x (at n s)) (sym (e n))) h

    splice_part : (y : Splice) (z : trees.Argument) (m : Mode) (s : State) → Part ns bodies r s (λ n. edited_does y (meaning.text ns z (at n s)) m (at n s)) s.steps
    splice_part y z m s =
        part_same ns bodies r (Some_end ns bodies r) (Any_refusal ns bodies r) s (λ n. edited_does y (meaning.text ns z s) m (at n s)) (λ n. edited_does y (meaning.text ns z (at n s)) m (at n s)) s.steps
        (λ n l. ap (λ cs. edited_does y cs m (at n s)) (sym (text_at ns z n s))) (edited_good ns bodies r y (meaning.text ns z s) m s)

    abbrev does : Mode → ℕ → Bool → Option Among → trees.Command → Doing
    does = regions.act ns class call

    mutual
      pub act_paid : (t : trees.Command) (w : Mode) (i : ℕ) (v : Bool) (x : Option Among) → ((a : Among) → IsIn a w i t → Has a) → ((a : Among) → x ≡ Some a → Has a) → GoodDoing (pay_first (does w i v x t))
      act_paid (bracket rs) w i v x p q = pays (does w i v x (bracket rs)) (rows_good rs w i v x p q)
      act_paid (simple_ y) w i v x p q = simple_paid x q y
      act_paid (literal_ z) w i v x p q = pays (does w i v x (literal_ z)) (λ m s. match_good ns bodies r z.value m s)
      act_paid (name_ y) w i v x p q = pays (does w i v x (name_ y)) (name_good y)
      act_paid (non_ b y) w i v x p q = pays (does w i v x (non_ b y)) (λ m s. class_good ns bodies r false (class y) m (touch_grouping (place_of (ns kinds.Groupings) y) s))
      act_paid (prefixed y c) w i v x p q =
          let d = does (mode_under y w) i v x c in
          let h : GoodDoing (pay_first d) = act_paid c (mode_under y w) i v x p q in
          pays (does w i v x (prefixed y c)) (prefixed_good ns bodies r y (pay_first d) h (paid_pays ns bodies r d h))
      act_paid (counted y e c) w i v x p q =
          let d = does w i v x c in
          let h : GoodDoing (pay_first d) = act_paid c w i v x p q in
          pays (does w i v x (counted y e c))
          (λ m s. by_value s (λ z. counted_does y z (pay_first d) m) (meaning.worth ns e m s) (λ n. meaning.worth ns e m (at n s)) (λ n. worth_at ns m n s e) (counted_good ns bodies r y (meaning.worth ns e m s) (pay_first d) h (paid_pays ns bodies r d h) m s))
      act_paid (move_ y e) w i v x p q =
          pays (does w i v x (move_ y e)) (λ m s. by_value s (λ z. moved_does y z m) (meaning.worth ns e m s) (λ n. meaning.worth ns e m (at n s)) (λ n. worth_at ns m n s e) (moved_good ns bodies r y (meaning.worth ns e m s) m s))
      act_paid (named y z) w i v x p q = pays (does w i v x (named y z)) (λ m s. named_good ns bodies r y z m s)
      act_paid (splice_ y z) w i v x p q = pays (does w i v x (splice_ y z)) (λ m s. splice_part y z m s)
      act_paid (setlimit_ b c) w i v x p q =
          let d = does w i v (first w c (number_after b i) x) b in
          let e = does w (number_after b i) (waits b v) x c in
          pays (does w i v x (setlimit_ b c))
          (limited_good ns bodies r (pay_first d) (pay_first e) (act_paid b w i v (first w c (number_after b i) x) (λ a j. p a (inl j)) (first_is Has c w (number_after b i) x (λ a j. p a (inr j)) q)) (act_paid c w (number_after b i) (waits b v) x (λ a j. p a (inr j)) q))
      act_paid (assign_ y o e) w i v x p q =
          pays (does w i v x (assign_ y o e))
          (λ m s. by_value s (λ z. assigned_does (place_of (ns kinds.Integers) y) o z) (meaning.worth ns e m s) (λ n. meaning.worth ns e m (at n s)) (λ n. worth_at ns m n s e) (assigned_good ns bodies r (place_of (ns kinds.Integers) y) o (meaning.worth ns e m s) s))
      act_paid (compare_ y o e) w i v x p q =
          pays (does w i v x (compare_ y o e))
          (λ m s.
          let z : Value = Ok (integer_at (place_of (ns kinds.Integers) y) s) in
          by_value s (λ u. compared_does z o u) (meaning.worth ns e m s) (λ n. meaning.worth ns e m (at n s)) (λ n. worth_at ns m n s e) (compared_good ns bodies r o z (meaning.worth ns e m s) s))
      act_paid (compare_values_ e o f) w i v x p q =
          pays (does w i v x (compare_values_ e o f))
          (λ m s.
          let z = meaning.worth ns f m s in
          part_same ns bodies r (Some_end ns bodies r) (Any_refusal ns bodies r) s (λ n. compared_does (meaning.worth ns e m s) o z (at n s)) (λ n. compared_does (meaning.worth ns e m (at n s)) o (meaning.worth ns f m (at n s)) (at n s)) s.steps
          (λ n l. ap (λ u. compared_does u o z (at n s)) (sym (worth_at ns m n s e)) ∙ ap (λ u. compared_does (meaning.worth ns e m (at n s)) o u (at n s)) (sym (worth_at ns m n s f)))
          (compared_good ns bodies r o (meaning.worth ns e m s) z s))
      act_paid (among_ st gs) w i v x p q =
          let a = among_at w i gs in
          let starts = regions.starter_does ns class call w (suc i) st in
          pays (does w i v x (among_ st gs))
          (λ m s.
          after_part ns bodies r s (λ n. begins v (search call a) starts m (at n s)) s.steps (λ t. with_group (choice i t) t (λ g. regions.group_does ns class call w (number_after_starter st (suc i)) gs g m t)) (Signals false)
          (begins_good ns bodies r v (search call a) starts (search_good a (p a (inl refl))) (starter_good st w (suc i) (λ y j. p y (inr (inl j)))) m s)
          (chosen_good ns bodies r i (λ g t. regions.group_does ns class call w (number_after_starter st (suc i)) gs g m t) (λ g. groups_good gs w (number_after_starter st (suc i)) g (λ y j. p y (inr (inr j))) m))
          (signals_good ns bodies r false))

      rows_good : (rs : trees.Rows) (w : Mode) (i : ℕ) (v : Bool) (x : Option Among) → ((a : Among) → IsInRows a w i rs → Has a) → ((a : Among) → x ≡ Some a → Has a) → GoodDoing (regions.rows_do ns class call w i v x rs)
      rows_good no_rows w i v x p q m s = still ns bodies r s s true refl refl refl
      rows_good (row c os rs) w i v x p q m s =
          let x2 = first_rows w rs (number_after_others os (number_after c i)) x in
          let x1 = first_others w os (number_after c i) x2 in
          let q2 : (a : Among) → x2 ≡ Some a → Has a = rows_are Has rs w (number_after_others os (number_after c i)) x (λ a j. p a (inr (inr j))) q in
          let q1 : (a : Among) → x1 ≡ Some a → Has a = others_are Has os w (number_after c i) x2 (λ a j. p a (inr (inl j))) q2 in
          let d = regions.others_do ns class call w (number_after c i) (waits c v) x2 os (does w i v x1 c) in
          after_part ns bodies r s (λ n. pay_first d m (at n s)) s.steps (regions.rows_do ns class call w (number_after_others os (number_after c i)) (waits_others os (waits c v)) x rs m) (Signals false)
          (others_paid os w (number_after c i) (waits c v) x2 (does w i v x1 c) (λ a j. p a (inr (inl j))) q2 (act_paid c w i v x1 (λ a j. p a (inl j)) q1) m s)
          (rows_good rs w (number_after_others os (number_after c i)) (waits_others os (waits c v)) x (λ a j. p a (inr (inr j))) q m) (signals_good ns bodies r false)

      pub others_paid : (os : trees.Others) (w : Mode) (i : ℕ) (v : Bool) (x : Option Among) (d : Doing) → ((a : Among) → IsInOthers a w i os → Has a) → ((a : Among) → x ≡ Some a → Has a) → GoodDoing (pay_first d) → GoodDoing (pay_first (regions.others_do ns class call w i v x os d))
      others_paid no_others w i v x d p q j = j
      others_paid (joined y c os) w i v x d p q j =
          let e = does w i v (first_others w os (number_after c i) x) c in
          let q1 : (a : Among) → first_others w os (number_after c i) x ≡ Some a → Has a = others_are Has os w (number_after c i) x (λ a k. p a (inr k)) q in
          others_paid os w (number_after c i) (waits c v) x (joined_does y (pay_first d) (pay_first e)) (λ a k. p a (inr k)) q
          (pays (joined_does y (pay_first d) (pay_first e)) (joined_good ns bodies r y (pay_first d) (pay_first e) j (act_paid c w i v (first_others w os (number_after c i) x) (λ a k. p a (inl k)) q1)))

      starter_good : (st : trees.Starter) (w : Mode) (i : ℕ) → ((a : Among) → IsInStarter a w i st → Has a) → GoodDoing (regions.starter_does ns class call w i st)
      starter_good no_starter w i p m s = still ns bodies r s s true refl refl refl
      starter_good (starter rs) w i p m s = pays (regions.rows_do ns class call w i false None rs) (rows_good rs w i false None p (none_is Has)) m s

      groups_good : (gs : trees.Groups) (w : Mode) (i g : ℕ) → ((a : Among) → IsInGroups a w i gs → Has a) → GoodDoing (regions.group_does ns class call w i gs g)
      groups_good (bare es) w i g p m s = still ns bodies r s s true refl refl refl
      groups_good (group e es rs gs) w i zero p m s = pays (regions.rows_do ns class call w i false None rs) (rows_good rs w i false None (λ a j. p a (inl j)) (none_is Has)) m s
      groups_good (group e es rs gs) w i (suc g) p m s = groups_good gs w (number_after_rows rs i) g (λ a j. p a (inr j)) m s
