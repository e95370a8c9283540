-- A script with more steps left.
use Rattle.std.proofs.Common.{ℕ, zero, suc, Bool, true, false, List, [], Option, Some, None, Ok, refl, sym, subst}
use Rattle.std.specs.Prelude.{slice_index_or}
use Rattle.sbl_ast.specs.declared.tree.DeclarationKind.TheVariants as kinds
use Rattle.sbl_ast.specs.Tree as trees
use Rattle.sbl_ast.specs.Tree.{bracket, simple_, literal_, name_, non_, prefixed, counted, move_, named, splice_, setlimit_, assign_, compare_, compare_values_, among_, no_rows, row, no_others, joined, no_starter, starter, bare, group}
use Rattle.sbl_semantics.specs.Items.{DeclaredNames, Body, place_of, is_member}
use Rattle.sbl_semantics.specs.Regions.{among_at, number_after, number_after_rows, number_after_others, number_after_starter, first, first_rows, first_others, waits, waits_others}
use Rattle.sbl_semantics.specs.Landmarks.{Among, mode_under}
use Rattle.sbl_semantics.specs.Meaning as meaning
use Rattle.sbl_semantics.specs.inside.RegionRuns as regions
use Rattle.sbl_semantics.specs.inside.MeaningParts as parts
use Rattle.sbl_semantics.specs.Meaning.{joined_does, search}
use Rattle.sbl_semantics.specs.inside.MeaningParts.{begins}
use Rattle.sbl_semantics.specs.Moves.{touch_grouping}
use Rattle.sbl_semantics.specs.Numbers.{integer_at}
use Rattle.sbl_semantics.specs.Control.{with_group, back_in, enter, pay_first}
use Rattle.sbl_semantics.specs.Choices.{choice}
use Rattle.sbl_semantics.specs.State.{Signals, Doing}
use Rattle.sbl_machine.proofs.Steps.{more, Goes, Steady, signals_go, steady_goes, if_goes, pays_go, paid_pays}
use Rattle.sbl_machine.proofs.StepsActs.{edited_go, named_go, match_go, class_go, moved_goes, simple_go, assigned_goes, compared_goes, text_more, worth_more, prefixed_go, counted_goes, joined_go, limited_go, begins_go, chosen_goes, search_go}
use Rattle.sbl_ast.specs.declared.mode.Mode.{Mode}

module _ (ns : DeclaredNames) (class : List ℕ → ℕ → Bool) (call : List ℕ → Doing) (go : (x : List ℕ) (m : Mode) → Steady (call x m)) where
  ahead_go : (n : Option Among) (m : Mode) → Steady (parts.search_ahead ns class call n m)
  ahead_go None m = signals_go false
  ahead_go (Some a) m = search_go call go a m

  tests_go : (wanted : Bool) (x : List ℕ) (m : Mode) → Steady (meaning.tests ns class wanted x m)
  tests_go wanted x m k n s l = class_go wanted (class x) m k n (touch_grouping (place_of (ns kinds.Groupings) x) s) l

  name_go : (x : List ℕ) (m : Mode) → Steady (meaning.name_does ns class call x m)
  name_go x m k n s l =
      if_goes k n (is_member (ns kinds.Strings) x) _ _ _ _ (match_go (slice_index_or s.strings (place_of (ns kinds.Strings) x) []) m k n s l)
      (if_goes k n (is_member (ns kinds.Booleans) x) _ _ _ _ (l, refl)
      (if_goes k n (is_member (ns kinds.Groupings) x) _ _ _ _ (tests_go true x m k n s l) (go x m k n s l)))

  abbrev does : Mode → ℕ → Bool → Option Among → trees.Command → Doing
  does = regions.act ns class call

  limited_go_on : (b c : trees.Command) (r : Mode) (i : ℕ) (w : Bool) (x x' : Option Among) → ((m : Mode) → Steady (does r i w x' b m)) → ((m : Mode) → Steady (does r (number_after b i) (waits b w) x c m)) → (m : Mode) → Steady (meaning.limited_does (pay_first (does r i w x' b)) (pay_first (does r (number_after b i) (waits b w) x c)) m)
  limited_go_on b c r i w x x' h j = limited_go (pay_first (does r i w x' b)) (pay_first (does r (number_after b i) (waits b w) x c)) (paid_pays (does r i w x' b) h) (paid_pays (does r (number_after b i) (waits b w) x c) j)

  mutual
    act_go : (t : trees.Command) (r : Mode) (i : ℕ) (w : Bool) (x : Option Among) (m : Mode) → Steady (does r i w x t m)
    act_go (bracket rs) r i w x m k n s l = rows_go rs r i w x m k n s l
    act_go (simple_ y) r i w x m k n s l = simple_go (parts.search_ahead ns class call x) (ahead_go x) y m k n s l
    act_go (literal_ q) r i w x m k n s l = match_go q.value m k n s l
    act_go (name_ y) r i w x m k n s l = name_go y m k n s l
    act_go (non_ b y) r i w x m k n s l = tests_go false y m k n s l
    act_go (prefixed y c) r i w x m k n s l = prefixed_go y (pay_first (does (mode_under y r) i w x c)) (paid_pays (does (mode_under y r) i w x c) (act_go c (mode_under y r) i w x)) m k n s l
    act_go (counted y e c) r i w x m k n s l = counted_goes y (pay_first (does r i w x c)) (paid_pays (does r i w x c) (act_go c r i w x)) m k n s _ _ (worth_more ns m k s e) l
    act_go (move_ y e) r i w x m k n s l = moved_goes y k n m s _ _ (worth_more ns m k s e) l
    act_go (named y z) r i w x m k n s l = named_go ns y z m k n s l
    act_go (splice_ y a) r i w x m k n s l = subst (λ cs. Goes k n (meaning.edited_does y (meaning.text ns a s) m s) (meaning.edited_does y cs m (more k s))) (sym (text_more ns a k s)) (edited_go y (meaning.text ns a s) m k n s l)
    act_go (setlimit_ b c) r i w x m k n s l =
        let x' = first r c (number_after b i) x in
        limited_go_on b c r i w x x' (act_go b r i w x') (act_go c r (number_after b i) (waits b w) x) m k n s l
    act_go (assign_ y o e) r i w x m k n s l = assigned_goes (place_of (ns kinds.Integers) y) o k n s _ _ (worth_more ns m k s e) l
    act_go (compare_ y o e) r i w x m k n s l = compared_goes o k n s (Ok (integer_at (place_of (ns kinds.Integers) y) s)) (Ok (integer_at (place_of (ns kinds.Integers) y) s)) _ _ refl (worth_more ns m k s e) l
    act_go (compare_values_ e o f) r i w x m k n s l = compared_goes o k n s _ _ _ _ (worth_more ns m k s e) (worth_more ns m k s f) l
    act_go (among_ st gs) r i w x m k n s l =
        let begun = begins w (search call (among_at r i gs)) (regions.starter_does ns class call r (suc i) st) m in
        steady_goes k n (begun s) (begun (more k s)) (λ t. with_group (choice i t) t (λ g. regions.group_does ns class call r (number_after_starter st (suc i)) gs g m t)) (Signals false)
        (begins_go w (search call (among_at r i gs)) (regions.starter_does ns class call r (suc i) st) (search_go call go (among_at r i gs)) (starter_go st r (suc i)) m k n s l)
        (λ k n t j. chosen_goes k n (choice i t) t _ _ j (λ g. groups_go gs r (number_after_starter st (suc i)) g m k n t j))
        (signals_go false)

    rows_go : (rs : trees.Rows) (r : Mode) (i : ℕ) (w : Bool) (x : Option Among) (m : Mode) → Steady (regions.rows_do ns class call r i w x rs m)
    rows_go no_rows r i w x m k n s l = (l, refl)
    rows_go (row c os rs) r i w x m k n s l =
        let x2 = first_rows r rs (number_after_others os (number_after c i)) x in
        let x1 = first_others r os (number_after c i) x2 in
        let d = regions.others_do ns class call r (number_after c i) (waits c w) x2 os (does r i w x1 c) in
        steady_goes k n (pay_first d m s) (pay_first d m (more k s)) (regions.rows_do ns class call r (number_after_others os (number_after c i)) (waits_others os (waits c w)) x rs m) (Signals false)
        (pays_go (pay_first d) (paid_pays d (others_go os r (number_after c i) (waits c w) x2 (does r i w x1 c) (act_go c r i w x1))) m k n s l)
        (rows_go rs r (number_after_others os (number_after c i)) (waits_others os (waits c w)) x m) (signals_go false)

    others_go : (os : trees.Others) (r : Mode) (i : ℕ) (w : Bool) (x : Option Among) (d : Doing) → ((m : Mode) → Steady (d m)) → (m : Mode) → Steady (regions.others_do ns class call r i w x os d m)
    others_go no_others r i w x d h m k n s l = h m k n s l
    others_go (joined j c os) r i w x d h m k n s l =
        let e = does r i w (first_others r os (number_after c i) x) c in
        others_go os r (number_after c i) (waits c w) x (joined_does j (pay_first d) (pay_first e)) (joined_go j (pay_first d) (pay_first e) (paid_pays d h) (paid_pays e (act_go c r i w (first_others r os (number_after c i) x)))) m k n s l

    starter_go : (st : trees.Starter) (r : Mode) (i : ℕ) (m : Mode) → Steady (regions.starter_does ns class call r i st m)
    starter_go no_starter r i m k n s l = (l, refl)
    starter_go (starter rs) r i m k n s l = pays_go (pay_first (regions.rows_do ns class call r i false None rs)) (paid_pays (regions.rows_do ns class call r i false None rs) (rows_go rs r i false None)) m k n s l

    groups_go : (gs : trees.Groups) (r : Mode) (i g : ℕ) (m : Mode) → Steady (regions.group_does ns class call r i gs g m)
    groups_go (bare es) r i g m k n s l = (l, refl)
    groups_go (group e es rs gs) r i zero m k n s l = pays_go (pay_first (regions.rows_do ns class call r i false None rs)) (paid_pays (regions.rows_do ns class call r i false None rs) (rows_go rs r i false None)) m k n s l
    groups_go (group e es rs gs) r i (suc g) m k n s l = groups_go gs r (number_after_rows rs i) g m k n s l

  row_go : (r : Mode) (c : trees.Command) (os : trees.Others) (m : Mode) → Steady (parts.row_does ns class call r c os m)
  row_go r c os = others_go os r (number_after c 0) (waits c false) None (does r 0 false (first_others r os (number_after c 0) None) c) (act_go c r 0 false (first_others r os (number_after c 0) None))

  body_go : (x : List ℕ) (b : Option Body) (m : Mode) → Steady (regions.body_does ns class call x b m)
  body_go x None m k n s l = (l, refl)
  body_go x (Some b) m k n s l =
      let d = pay_first (parts.row_does ns class call b.mode b.first b.others) m in
      let begun = enter (place_of (ns kinds.Routines) x) (number_after_others b.others (number_after b.first 0)) s in
      steady_goes k n (d begun) (d (more k begun)) (λ t. Signals true (back_in s.routine s.choices true t)) (λ t. Signals false (back_in s.routine s.choices false t))
      (pays_go (pay_first (parts.row_does ns class call b.mode b.first b.others)) (paid_pays (parts.row_does ns class call b.mode b.first b.others) (row_go b.mode b.first b.others)) m k n begun l)
      (λ k n t j. (j, refl)) (λ k n t j. (j, refl))

pub calls_go : (ns : DeclaredNames) (class : List ℕ → ℕ → Bool) (bodies : List ℕ → Option Body) (levels : ℕ) (x : List ℕ) (m : Mode) → Steady (regions.calls ns class bodies levels x m)
calls_go ns class bodies zero x m k n s l = (l, refl)
calls_go ns class bodies (suc levels) x m k n s l = body_go ns class (regions.calls ns class bodies levels) (calls_go ns class bodies levels) x (bodies x) m k n s l
