-- The program of a tree does what the tree does.
use Rattle.std.proofs.Common.{◌≡◌, ℕ, zero, suc, Bool, true, false, List, [], Option, Some, None, refl, ap, ◌∙◌}
use Rattle.std.specs.Prelude.{ℤ, Ok, if◌then◌else◌, slice_index_or, slice_set}
use Rattle.std.proofs.Math.Path.{fun_ext}
use Rattle.sbl_ast.specs.declared.tree.Assignment.{Assignment}
use Rattle.sbl_ast.specs.declared.tree.Comparison.{Comparison}
use Rattle.sbl_ast.specs.declared.tree.Joiner.{Joiner}
use Rattle.sbl_ast.specs.declared.tree.Joiner.TheVariants.{Or, And}
use Rattle.sbl_ast.specs.declared.tree.Simple.{Simple}
use Rattle.sbl_ast.specs.declared.tree.Simple.TheVariants as simples
use Rattle.sbl_ast.specs.declared.tree.Prefix.{Prefix}
use Rattle.sbl_ast.specs.declared.tree.Prefix.TheVariants as prefixes
use Rattle.sbl_ast.specs.declared.tree.Count.{Count}
use Rattle.sbl_ast.specs.declared.tree.Count.TheVariants as counts
use Rattle.sbl_ast.specs.declared.tree.Move.{Move}
use Rattle.sbl_ast.specs.declared.tree.Move.TheVariants as moves
use Rattle.sbl_ast.specs.declared.tree.Naming.{Naming}
use Rattle.sbl_ast.specs.declared.tree.Naming.TheVariants as namings
use Rattle.sbl_ast.specs.declared.tree.Splice.{Splice}
use Rattle.sbl_ast.specs.declared.tree.Splice.TheVariants as splices
use Rattle.sbl_ast.specs.declared.tree.DeclarationKind.TheVariants as kinds
use Rattle.sbl_ast.specs.Tree as trees
use Rattle.sbl_ast.specs.Tree.{bracket, simple_, literal_, name_, non_, prefixed, counted, move_, named, splice_, setlimit_, assign_, compare_, compare_values_, among_, no_rows, row, no_others, joined, no_starter, starter, bare, group}
use Rattle.sbl_compiler.specs.Ahead.{search_next, search_of, found_as, search_then, simple_by, made_command, made_rows, made_others, made_starter, made_groups}
use Rattle.sbl_semantics.specs.Items.{DeclaredNames, place_of, is_member}
use Rattle.sbl_semantics.specs.Meaning.{prefixed_does, counted_does, joined_does, limited_does, simple_does, moved_does, named_does, edited_does, assigned_does, compared_does, worth}
use Rattle.sbl_semantics.specs.inside.MeaningParts.{begins}
use Rattle.sbl_semantics.specs.Meaning as meaning
use Rattle.sbl_semantics.specs.inside.RegionRuns as regions
use Rattle.sbl_semantics.specs.inside.MeaningParts as parts
use Rattle.sbl_program.specs.Arithmetic.{characters, value, changed_value, holds}
use Rattle.sbl_semantics.specs.Moves.{one_of, touch_grouping, match, set_mark, set_boolean, test_boolean}
use Rattle.sbl_compiler.specs.NumberedItems.{name_alone, after_prefix, after_count, move, change_named, edit, change_of, relation_of}
use Rattle.sbl_program.specs.Chains.{join}
use Rattle.sbl_compiler.specs.NumberedNames.{Names, is_one_of, number_of}
use Rattle.sbl_compiler.specs.NumberedNumbers.{expression, text}
use Rattle.sbl_semantics.specs.Numbers.{Value, continue_with, integer_at, with_value}
use Rattle.sbl_program.specs.Program as programs
use Rattle.sbl_program.specs.Terms.{class_at}
use Rattle.sbl_semantics.specs.Regions.{among_at, number_after, number_after_rows, number_after_others, number_after_starter, first, first_rows, first_others, waits, waits_others}
use Rattle.sbl_semantics.specs.Landmarks.{Among, mode_under}
use Rattle.sbl_program.specs.Run as run
use Rattle.sbl_semantics.specs.Control as control
use Rattle.sbl_semantics.specs.Control.{pay_first}
use Rattle.sbl_program.specs.Run.{in_turn, nth_does}
use Rattle.sbl_semantics.specs.Choices.{choice}
use Rattle.sbl_semantics.specs.Slices.{keep}
use Rattle.sbl_semantics.specs.State.{State, Ending, Signals, Stops, Doing, after}
use Rattle.sbl_compiler.proofs.SoundItems.{among_is, placed_by}
use Rattle.sbl_machine.proofs.SoundParts.{Agree, text_same, worth_same, search_same, changed_same, holds_same}
use Rattle.sbl_ast.specs.declared.mode.Mode.{Mode}

after_same : (e : Ending) → after e (Signals true) (Signals false) ≡ e
after_same (Signals true s) = refl
after_same (Signals false s) = refl
after_same (Stops fault s) = refl

if_same : (a b : Bool) (x x' y y' : Ending) → a ≡ b → x ≡ x' → y ≡ y' → (if a then x else y) ≡ (if b then x' else y')
if_same a b x x' y y' h k l = ap (λ c. if c then x else y) h ∙ ap (λ z. if b then z else y) k ∙ ap (λ z. if b then x' else z) l

module _ (ns : Names) (known : DeclaredNames) (agree : Agree ns known) (classes : List (ℕ → Bool)) (class : List ℕ → ℕ → Bool) (call : ℕ → Doing) (call' : List ℕ → Doing)
    (same_class : (n : List ℕ) (c : ℕ) → class_at classes (number_of ns.groupings n) c ≡ class n c) (same_call : (n : List ℕ) → call (number_of ns.routines n) ≡ call' n) where
  abbrev does_as : programs.Node → Doing → Type 0
  does_as x d = (m : Mode) (s : State) → run.act classes call x m s ≡ d m s

  same : (x : programs.Node) (d : Doing) → does_as x d → run.act classes call x ≡ d
  same x d h = fun_ext (λ m. fun_ext (h m))

  if_does : (b : Bool) (x y : programs.Node) (m : Mode) (s : State) → run.act classes call (if b then x else y) m s ≡ (if b then run.act classes call x m s else run.act classes call y m s)
  if_does true x y m s = refl
  if_does false x y m s = refl

  string_at : (n : List ℕ) → number_of ns.strings n ≡ place_of (known kinds.Strings) n
  string_at n = placed_by _ _ n agree.strings

  integer_of : (n : List ℕ) → number_of ns.integers n ≡ place_of (known kinds.Integers) n
  integer_of n = placed_by _ _ n agree.integers

  boolean_of : (n : List ℕ) → number_of ns.booleans n ≡ place_of (known kinds.Booleans) n
  boolean_of n = placed_by _ _ n agree.booleans

  one_kind : (xs ys : List (List ℕ)) (n : List ℕ) → xs ≡ ys → is_one_of xs n ≡ is_member ys n
  one_kind xs ys n e = among_is xs n ∙ ap (λ zs. is_member zs n) e

  grouping_same : (w : Bool) (n : List ℕ) (m : Mode) (s : State) → one_of w (class_at classes (number_of ns.groupings n)) m (touch_grouping (number_of ns.groupings n) s) ≡ meaning.tests known class w n m s
  grouping_same w n m s =
      ap (λ c. one_of w c m (touch_grouping (number_of ns.groupings n) s)) (fun_ext (same_class n))
      ∙ ap (λ g. one_of w (class n) m (touch_grouping g s)) (placed_by _ _ n agree.groupings)

  name_same : (n : List ℕ) (m : Mode) (s : State) → run.act classes call (name_alone ns n) m s ≡ meaning.name_does known class call' n m s
  name_same n m s =
      let r = programs.call (number_of ns.routines n) in
      let g = programs.act (programs.grouping (number_of ns.groupings n)) in
      let b = programs.act (programs.boolean (number_of ns.booleans n)) in
      let t = programs.act (programs.match (programs.variable (number_of ns.strings n))) in
      if_does (is_one_of ns.strings n) t (if is_one_of ns.booleans n then b else (if is_one_of ns.groupings n then g else r)) m s
      ∙ if_same _ _ _ _ _ _ (one_kind _ _ n agree.strings) (ap (λ i. match (slice_index_or s.strings i []) m s) (string_at n))
      (if_does (is_one_of ns.booleans n) b (if is_one_of ns.groupings n then g else r) m s
      ∙ if_same _ _ _ _ _ _ (one_kind _ _ n agree.booleans) (ap (λ i. test_boolean i s) (boolean_of n))
      (if_does (is_one_of ns.groupings n) g r m s
      ∙ if_same _ _ _ _ _ _ (one_kind _ _ n agree.groupings) (grouping_same true n m s) (ap (λ d. d m s) (same_call n))))

  search_is : (a : Among) → does_as (search_of (found_as ns a)) (meaning.search call' a)
  search_is a m s = search_same ns known agree call call' same_call a m s

  ahead_same : (n : Option Among) → does_as (search_next ns n) (parts.search_ahead known class call' n)
  ahead_same None m s = refl
  ahead_same (Some a) m s = search_is a m s

  simple_same : (x : Simple) (n : Option Among) → does_as (simple_by ns x n) (simple_does (parts.search_ahead known class call' n) x)
  simple_same simples.Substring n m s = ahead_same n m s
  simple_same _ n m s = refl

  prefix_same : (x : Prefix) (c : programs.Node) (d : Doing) → run.act classes call c ≡ d → does_as (after_prefix x c) (prefixed_does x (pay_first d))
  prefix_same prefixes.Not c d h m s = ap (λ d. prefixed_does prefixes.Not (pay_first d) m s) h
  prefix_same prefixes.Test c d h m s = ap (λ d. prefixed_does prefixes.Test (pay_first d) m s) h
  prefix_same prefixes.Try c d h m s = ap (λ d. prefixed_does prefixes.Try (pay_first d) m s) h
  prefix_same prefixes.Do c d h m s = ap (λ d. prefixed_does prefixes.Do (pay_first d) m s) h
  prefix_same prefixes.Fail c d h m s = ap (λ d. prefixed_does prefixes.Fail (pay_first d) m s) h
  prefix_same prefixes.Repeat c d h m s = ap (λ d. prefixed_does prefixes.Repeat (pay_first d) m s) h
  prefix_same prefixes.GoTo c d h m s = ap (λ d. prefixed_does prefixes.GoTo (pay_first d) m s) h
  prefix_same prefixes.GoPast c d h m s = ap (λ d. prefixed_does prefixes.GoPast (pay_first d) m s) h
  prefix_same prefixes.Backwards c d h m s = ap (λ d. prefixed_does prefixes.Backwards (pay_first d) m s) h

  count_same : (x : Count) (e : programs.Arithmetic) (v : Value) (c : programs.Node) (d : Doing) (m : Mode) (s : State) → value e m s ≡ v → run.act classes call c ≡ d → run.act classes call (after_count x e c) m s ≡ counted_does x v (pay_first d) m s
  count_same counts.Loop e v c d m s h k = ap (λ v. counted_does counts.Loop v (pay_first (run.act classes call c)) m s) h ∙ ap (λ d. counted_does counts.Loop v (pay_first d) m s) k
  count_same counts.AtLeast e v c d m s h k = ap (λ v. counted_does counts.AtLeast v (pay_first (run.act classes call c)) m s) h ∙ ap (λ d. counted_does counts.AtLeast v (pay_first d) m s) k

  join_same : (j : Joiner) (x y : programs.Node) (d e : Doing) → run.act classes call x ≡ d → run.act classes call y ≡ e → does_as (join j x y) (joined_does j (pay_first d) (pay_first e))
  join_same Or x y d e h k m s = ap (λ d. joined_does Or (pay_first d) (pay_first (run.act classes call y)) m s) h ∙ ap (λ e. joined_does Or (pay_first d) (pay_first e) m s) k
  join_same And x y d e h k m s = ap (λ d. joined_does And (pay_first d) (pay_first (run.act classes call y)) m s) h ∙ ap (λ e. joined_does And (pay_first d) (pay_first e) m s) k

  move_same : (x : Move) (e : programs.Arithmetic) (v : Value) (m : Mode) (s : State) → value e m s ≡ v → run.act classes call (programs.act (move x e)) m s ≡ moved_does x v m s
  move_same moves.Hop e v m s h = ap (λ v. moved_does moves.Hop v m s) h
  move_same moves.AtMark e v m s h = ap (λ v. moved_does moves.AtMark v m s) h
  move_same moves.ToMark e v m s h = ap (λ v. moved_does moves.ToMark v m s) h

  naming_same : (x : Naming) (n : List ℕ) → does_as (programs.act (change_named ns x n)) (named_does known x n)
  naming_same namings.SetMark n m s = ap (λ i. Signals true (set_mark i s)) (integer_of n)
  naming_same namings.Set n m s = ap (λ i. Signals true (set_boolean i true s)) (boolean_of n)
  naming_same namings.Unset n m s = ap (λ i. Signals true (set_boolean i false s)) (boolean_of n)
  naming_same namings.Arrow n m s = ap (λ i. keep i s) (string_at n)

  edit_same : (x : Splice) (t : programs.StringTerm) (cs : List ℕ) (m : Mode) (s : State) → characters t s ≡ cs → run.act classes call (programs.act (edit x t)) m s ≡ edited_does x cs m s
  edit_same splices.Replace t cs m s h = ap (λ cs. edited_does splices.Replace cs m s) h
  edit_same splices.InsertSign t cs m s h = ap (λ cs. edited_does splices.InsertSign cs m s) h
  edit_same splices.Insert t cs m s h = ap (λ cs. edited_does splices.Insert cs m s) h
  edit_same splices.Attach t cs m s h = ap (λ cs. edited_does splices.Attach cs m s) h

  abbrev assigning : ℕ → (ℤ → ℤ → Value) → Value → State → Ending
  assigning x f v s = continue_with (with_value v (f (integer_at x s))) s (λ z. Signals true (record s { integers = slice_set s.integers x z }))

  assign_same : (n : List ℕ) (o : Assignment) (e : trees.Expression) → does_as (programs.act (programs.assign (number_of ns.integers n) (change_of o) (expression ns e))) (λ m s. assigned_does (place_of (known kinds.Integers) n) o (worth known e m s) s)
  assign_same n o e m s =
      ap (λ x. assigning x (changed_value (change_of o)) (value (expression ns e) m s) s) (integer_of n)
      ∙ ap (λ f. assigning (place_of (known kinds.Integers) n) f (value (expression ns e) m s) s) (changed_same o)
      ∙ ap (λ v. assigning (place_of (known kinds.Integers) n) (meaning.assigned_value o) v s) (worth_same ns known agree e m s)

  abbrev comparing : Value → (ℤ → ℤ → Bool) → Value → State → Ending
  comparing v f w s = continue_with v s (λ x. continue_with w s (λ y. Signals (f x y) s))

  compare_same : (a b : programs.Arithmetic) (o : Comparison) (v w : Value) (m : Mode) (s : State) → value a m s ≡ v → value b m s ≡ w → run.act classes call (programs.act (programs.compare a (relation_of o) b)) m s ≡ compared_does v o w s
  compare_same a b o v w m s h k =
      ap (λ v. comparing v (holds (relation_of o)) (value b m s) s) h
      ∙ ap (λ f. comparing v f (value b m s) s) (holds_same o)
      ∙ ap (λ w. comparing v (meaning.is_so o) w s) k

  before_same : (w : Bool) (a : Among) (cs : programs.Nodes) (d : Doing) (m : Mode) (s : State) → in_turn classes call cs m ≡ d m → in_turn classes call (search_then ns w a cs) m s ≡ begins w (meaning.search call' a) d m s
  before_same true a cs d m s h = refl
  before_same false a cs d m s h =
      ap (λ e. after (pay_first e m s) (in_turn classes call cs m) (Signals false)) (same (search_of (found_as ns a)) (meaning.search call' a) (search_is a))
      ∙ ap (λ f. after (pay_first (meaning.search call' a) m s) f (Signals false)) h

  abbrev does : Mode → ℕ → Bool → Option Among → trees.Command → Doing
  does r k w n t = regions.act known class call' r k w n t

  mutual
    pub sound : (t : trees.Command) (r : Mode) (k : ℕ) (w : Bool) (n : Option Among) → does_as (made_command ns r k w n t) (does r k w n t)
    sound (bracket rs) r k w n m s = rows_sound rs r k w n m s
    sound (simple_ x) r k w n m s = simple_same x n m s
    sound (literal_ q) r k w n m s = refl
    sound (name_ x) r k w n m s = name_same x m s
    sound (non_ b x) r k w n m s = grouping_same false x m s
    sound (prefixed x c) r k w n m s = prefix_same x (made_command ns (mode_under x r) k w n c) (does (mode_under x r) k w n c) (fun_ext (λ m. fun_ext (λ s. sound c (mode_under x r) k w n m s))) m s
    sound (counted x e c) r k w n m s = count_same x (expression ns e) _ (made_command ns r k w n c) (does r k w n c) m s (worth_same ns known agree e m s) (fun_ext (λ m. fun_ext (λ s. sound c r k w n m s)))
    sound (move_ x e) r k w n m s = move_same x (expression ns e) _ m s (worth_same ns known agree e m s)
    sound (named x y) r k w n m s = naming_same x y m s
    sound (splice_ x a) r k w n m s = edit_same x (text ns a) _ m s (text_same ns known agree a s)
    sound (setlimit_ b c) r k w n m s =
        let n' = first r c (number_after b k) n in
        ap (λ d. limited_does (pay_first d) (pay_first (run.act classes call (made_command ns r (number_after b k) (waits b w) n c))) m s) (fun_ext (λ m. fun_ext (λ s. sound b r k w n' m s)))
        ∙ ap (λ d. limited_does (pay_first (does r k w n' b)) (pay_first d) m s) (fun_ext (λ m. fun_ext (λ s. sound c r (number_after b k) (waits b w) n m s)))
    sound (assign_ x o e) r k w n m s = assign_same x o e m s
    sound (compare_ x o e) r k w n m s = compare_same (programs.integer (number_of ns.integers x)) (expression ns e) o _ _ m s (ap (λ i. Ok (integer_at i s)) (integer_of x)) (worth_same ns known agree e m s)
    sound (compare_values_ e o f) r k w n m s = compare_same (expression ns e) (expression ns f) o _ _ m s (worth_same ns known agree e m s) (worth_same ns known agree f m s)
    sound (among_ st gs) r k w n m s =
        let k' = number_after_starter st (suc k) in
        let bodies = made_groups ns r k' gs in
        let on_t = λ (t : State). control.with_group (choice k t) t (λ g. nth_does classes call bodies g m t) in
        ap (λ e. after e on_t (Signals false)) (before_same w (among_at r k gs) (made_starter ns r (suc k) st) (regions.starter_does known class call' r (suc k) st) m s (fun_ext (λ t. starter_sound st r (suc k) m t)))
        ∙ ap (λ f. after (begins w (meaning.search call' (among_at r k gs)) (regions.starter_does known class call' r (suc k) st) m s) (λ t. control.with_group (choice k t) t (λ g. f g t)) (Signals false)) (fun_ext (λ g. fun_ext (λ t. groups_sound gs r k' g m t)))

    rows_sound : (rs : trees.Rows) (r : Mode) (k : ℕ) (w : Bool) (n : Option Among) (m : Mode) (s : State) → in_turn classes call (made_rows ns r k w n rs) m s ≡ regions.rows_do known class call' r k w n rs m s
    rows_sound no_rows r k w n m s = refl
    rows_sound (row c os rs) r k w n m s =
        let k1 = number_after c k in
        let k2 = number_after_others os k1 in
        let n2 = first_rows r rs k2 n in
        let n1 = first_others r os k1 n2 in
        let rest = made_rows ns r k2 (waits_others os (waits c w)) n rs in
        ap (λ d. after (pay_first d m s) (in_turn classes call rest m) (Signals false))
        (others_sound os r k1 (waits c w) n2 (made_command ns r k w n1 c) (does r k w n1 c) (fun_ext (λ m. fun_ext (λ s. sound c r k w n1 m s))))
        ∙ ap (λ f. after (pay_first (regions.others_do known class call' r k1 (waits c w) n2 os (does r k w n1 c)) m s) f (Signals false))
        (fun_ext (λ t. rows_sound rs r k2 (waits_others os (waits c w)) n m t))

    pub others_sound : (os : trees.Others) (r : Mode) (k : ℕ) (w : Bool) (n : Option Among) (x : programs.Node) (d : Doing) → run.act classes call x ≡ d → run.act classes call (made_others ns r k w n os x) ≡ regions.others_do known class call' r k w n os d
    others_sound no_others r k w n x d h = h
    others_sound (joined j c os) r k w n x d h =
        let n1 = first_others r os (number_after c k) n in
        let y = made_command ns r k w n1 c in
        let e = does r k w n1 c in
        others_sound os r (number_after c k) (waits c w) n (join j x y) (joined_does j (pay_first d) (pay_first e)) (fun_ext (λ m. fun_ext (λ s. join_same j x y d e h (fun_ext (λ m. fun_ext (λ s. sound c r k w n1 m s))) m s)))

    starter_sound : (st : trees.Starter) (r : Mode) (k : ℕ) (m : Mode) (s : State) → in_turn classes call (made_starter ns r k st) m s ≡ regions.starter_does known class call' r k st m s
    starter_sound no_starter r k m s = refl
    starter_sound (starter rs) r k m s =
        after_same _ ∙ ap (λ d. pay_first d m s) (fun_ext (λ m. fun_ext (λ s. rows_sound rs r k false None m s)))

    groups_sound : (gs : trees.Groups) (r : Mode) (k : ℕ) (g : ℕ) (m : Mode) (s : State) → nth_does classes call (made_groups ns r k gs) g m s ≡ regions.group_does known class call' r k gs g m s
    groups_sound (bare es) r k g m s = refl
    groups_sound (group e es rs gs) r k zero m s = ap (λ d. pay_first d m s) (fun_ext (λ m. fun_ext (λ s. rows_sound rs r k false None m s)))
    groups_sound (group e es rs gs) r k (suc g) m s = groups_sound gs r (number_after_rows rs k) g m s

  -- a routine's body
  pub row_sound : (r : Mode) (c : trees.Command) (os : trees.Others) → run.act classes call (made_others ns r (number_after c 0) (waits c false) None os (made_command ns r 0 false (first_others r os (number_after c 0) None) c)) ≡ parts.row_does known class call' r c os
  row_sound r c os =
      let n1 = first_others r os (number_after c 0) None in
      others_sound os r (number_after c 0) (waits c false) None (made_command ns r 0 false n1 c) (does r 0 false n1 c) (fun_ext (λ m. fun_ext (λ s. sound c r 0 false n1 m s)))
