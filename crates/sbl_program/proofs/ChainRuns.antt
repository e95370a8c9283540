-- A row, a sum and a product grouped from the left do what their parts do one after another.
use Rattle.std.proofs.Common.{◌≡◌, ℕ, zero, suc, ◌+◌, ◌-◌, ◌<◌, ◌≤◌, Bool, true, false, List, [], ◌∷◌, length, map, drop, get_or, Err, refl, sym, ap, ◌∙◌, arith, Box, Vec, Global, rules}
use Rattle.std.proofs.Math.Path.{fun_ext}
use Rattle.std.proofs.lemmas.List.{drop_more}
use Rattle.sbl_ast.specs.declared.tree.Joiner.{Joiner}
use Rattle.sbl_ast.specs.declared.tree.Joiner.TheVariants.{Or, And}
use Rattle.sbl_ast.specs.declared.tree.Additive.{Additive}
use Rattle.sbl_ast.specs.declared.tree.Additive.TheVariants as additives
use Rattle.sbl_ast.specs.declared.tree.Multiplicative.{Multiplicative}
use Rattle.sbl_ast.specs.declared.tree.Multiplicative.TheVariants as multiplicatives
use Rattle.sbl_program.specs.declared.action.Arithmetic.{Arithmetic}
use Rattle.sbl_program.specs.declared.action.Arithmetic.TheVariants.{Sum, Product}
use Rattle.sbl_program.specs.declared.action.Arithmetic.TheFolds.{fold_out-Arithmetic}
use Rattle.sbl_program.specs.declared.action.Arithmetic.TheViews.{the_lemmas as number_lemmas}
use Rattle.sbl_program.specs.declared.action.Addend.{Addend}
use Rattle.sbl_program.specs.declared.action.Multiplicand.{Multiplicand}
use Rattle.sbl_program.specs.declared.node.Node.{Node}
use Rattle.sbl_program.specs.declared.node.JoinedNode.{JoinedNode}
use Rattle.sbl_program.specs.declared.node.Node.TheVariants.{Row}
use Rattle.sbl_program.specs.declared.node.Node.TheFolds.{fold_out-Node}
use Rattle.sbl_program.specs.declared.node.Node.TheViews.{the_lemmas}
use Rattle.sbl_program.specs.Chains.{AddedView, JoinedView, ScaledView, sum_or_difference, all_sums, row_node, join, join_all, product_or_quotient, all_products}
use Rattle.sbl_program.specs.AmongStrings.{Listing}
use Rattle.sbl_program.specs.Program as programs
use Rattle.sbl_program.specs.ProgramOf.{view_next_product, view_next_command, view_node, view_number, view_next_factor}
use Rattle.sbl_semantics.specs.declared.fault.RunFault.{RunFault}
use Rattle.sbl_semantics.specs.declared.fault.RunFault.TheVariants.{Steps}
use Rattle.sbl_semantics.specs.declared.cursor.SavedCursor.{SavedCursor}
use Rattle.sbl_program.specs.Arithmetic.{value}
use Rattle.sbl_semantics.specs.Numbers.{with_both}
use Rattle.sbl_program.specs.Rows.{joined_after, joined_runs, others_run, pays, product_of, row_runs, scales_to, sum_of, sums_to}
use Rattle.sbl_program.specs.Run.{runs_paid, act, calls, runs}
use Rattle.sbl_semantics.specs.State.{State, Ending, Signals, Stops, after, then_on, pay, saved_cursor}
use Rattle.sbl_ast.specs.declared.mode.Mode.{Mode}

-- ---- sums and products

sum_same : (o : Additive) (a b : programs.Arithmetic) (m : Mode) (s : State) → value (sum_or_difference o a b) m s ≡ with_both (value a m s) (value b m s) (sum_of o)
sum_same additives.Plus a b m s = refl
sum_same additives.Minus a b m s = refl

product_same : (o : Multiplicative) (a b : programs.Arithmetic) (m : Mode) (s : State) → value (product_or_quotient o a b) m s ≡ with_both (value a m s) (value b m s) (product_of o)
product_same multiplicatives.Times a b m s = refl
product_same multiplicatives.Over a b m s = refl

pub sums_done : (os : List AddedView) (a : programs.Arithmetic) (m : Mode) (s : State) → value (all_sums os a) m s ≡ sums_to os (value a m s) m s
sums_done [] a m s = refl
sums_done (o ∷ os) a m s = sums_done os (sum_or_difference o.0 a o.1) m s ∙ ap (λ v. sums_to os v m s) (sum_same o.0 a o.1 m s)

pub scales_done : (os : List ScaledView) (a : programs.Arithmetic) (m : Mode) (s : State) → value (all_products os a) m s ≡ scales_to os (value a m s) m s
scales_done [] a m s = refl
scales_done (o ∷ os) a m s = scales_done os (product_or_quotient o.0 a o.1) m s ∙ ap (λ v. scales_to os v m s) (product_same o.0 a o.1 m s)

pub sums_stop : (os : List AddedView) (fault : RunFault) (m : Mode) (s : State) → sums_to os (Err fault) m s ≡ Err fault
sums_stop [] fault m s = refl
sums_stop (o ∷ os) fault m s = sums_stop os fault m s

pub scales_stop : (os : List ScaledView) (fault : RunFault) (m : Mode) (s : State) → scales_to os (Err fault) m s ≡ Err fault
scales_stop [] fault m s = refl
scales_stop (o ∷ os) fault m s = scales_stop os fault m s

view_sum : (first : Box Arithmetic Global) (others : Vec Addend Global) → view_number (Sum first others) ≡ all_sums (map view_next_product others.items) (view_number first.value)
view_sum first others = first_of (search (rules, number_lemmas), search (rules, number_lemmas, fold_out-Arithmetic))

pub sum_value : (first : Box Arithmetic Global) (others : Vec Addend Global) (m : Mode) (s : State) → value (view_number (Sum first others)) m s ≡ sums_to (map view_next_product others.items) (value (view_number first.value) m s) m s
sum_value first others m s = ap (λ n. value n m s) (view_sum first others) ∙ sums_done (map view_next_product others.items) (view_number first.value) m s

view_product : (first : Box Arithmetic Global) (others : Vec Multiplicand Global) → view_number (Product first others) ≡ all_products (map view_next_factor others.items) (view_number first.value)
view_product first others = first_of (search (rules, number_lemmas), search (rules, number_lemmas, fold_out-Arithmetic))

pub product_value : (first : Box Arithmetic Global) (others : Vec Multiplicand Global) (m : Mode) (s : State) → value (view_number (Product first others)) m s ≡ scales_to (map view_next_factor others.items) (value (view_number first.value) m s) m s
product_value first others m s = ap (λ n. value n m s) (view_product first others) ∙ scales_done (map view_next_factor others.items) (view_number first.value) m s

-- the i-th of some parts, and then those that follow it
pub part_is : {X Y : Type 0} (f : X → Y) (xs : List X) (i : ℕ) (x : X) → i < length xs → x ≡ get_or xs i x → map f (drop i xs) ≡ f x ∷ map f (drop (i + 1) xs)
part_is f xs i x l e = ap (map f) (drop_more xs i x l ∙ ap (λ y. y ∷ drop (i + 1) xs) (sym e))

-- ---- rows

and_nothing : (e : Ending) → then_on e (Signals true) ≡ e
and_nothing (Signals true s) = refl
and_nothing (Signals false s) = refl
and_nothing (Stops fault s) = refl

as_it_is : (e : Ending) → after e (Signals true) (Signals false) ≡ e
as_it_is (Signals true s) = refl
as_it_is (Signals false s) = refl
as_it_is (Stops fault s) = refl

then_then : (e : Ending) (f g : State → Ending) → then_on (then_on e f) g ≡ then_on e (λ s. then_on (f s) g)
then_then (Signals true s) f g = refl
then_then (Signals false s) f g = refl
then_then (Stops fault s) f g = refl

-- the last of some steps
pub pays_last : (n : ℕ) (s : State) → pays (suc n) s ≡ then_on (pays n s) (λ u. pay u.steps u)
pays_last zero s = and_nothing (pay s.steps s)
pays_last (suc n) s = ap (λ f. then_on (pay s.steps s) f) (fun_ext (λ u. pays_last n u)) ∙ sym (then_then (pay s.steps s) (pays n) (λ u. pay u.steps u))

-- some steps at once, if there are enough, and if there are not
pub pays_all : (n k : ℕ) (s : State) → n ≤ k → pays n (record s { steps = k }) ≡ Signals true (record s { steps = k - n })
pays_all zero k s l = let e : k ≡ k - 0 = omega arith in ap (λ j. Signals true (record s { steps = j })) e
pays_all (suc n) zero s l = absurd (omega arith)
pays_all (suc n) (suc k) s l =
    let e : k - n ≡ suc k - suc n = omega arith in
    pays_all n k s (omega arith) ∙ ap (λ j. Signals true (record s { steps = j })) e

pub pays_short : (n k : ℕ) (s : State) → k < n → pays n (record s { steps = k }) ≡ Stops Steps (record s { steps = 0 })
pays_short zero k s l = absurd (omega arith)
pays_short (suc n) zero s l = refl
pays_short (suc n) (suc k) s l = pays_short n k s (omega arith)

module _ (p : programs.Program) (levels : ℕ) (m : Mode) where
  pub others_stop : (from : SavedCursor) (os : List JoinedView) (fault : RunFault) (s : State) → others_run p levels m from os (Stops fault s) ≡ Stops fault s
  others_stop from [] fault s = refl
  others_stop from (o ∷ os) fault s = others_stop from os fault s

  pub after_signal : (from : SavedCursor) (o : JoinedView) (b : Bool) (s : State) → joined_after p levels m from o (Signals b s) ≡ joined_runs p levels m from o b s
  after_signal from o true s = refl
  after_signal from o false s = refl

  join_runs : (j : Joiner) (c d : programs.Node) (s : State) → act p.groupings (calls p levels) (join j c d) m s ≡ joined_after p levels m (saved_cursor s) (j, d) (runs p levels c m s)
  join_runs Or c d s = refl
  join_runs And c d s = refl

  -- a step that is paid inside is paid before
  paid_before : (n : ℕ) (j : Joiner) (c d : programs.Node) (os : List JoinedView) (u : State) → others_run p levels m (saved_cursor u) os (then_on (pay n u) (act p.groupings (calls p levels) (join j c d) m)) ≡ then_on (pay n u) (λ v. others_run p levels m (saved_cursor v) ((j, d) ∷ os) (runs p levels c m v))
  paid_before zero j c d os u = others_stop (saved_cursor u) os Steps u
  paid_before (suc n) j c d os u = ap (others_run p levels m (saved_cursor u) os) (join_runs j c d (record u { steps = n }))

  row_acts : (os : List JoinedView) (o : JoinedView) (c : programs.Node) (s : State) → act p.groupings (calls p levels) (join_all os (join o.0 c o.1)) m s ≡ then_on (pays (length os) s) (λ u. others_run p levels m (saved_cursor u) (o ∷ os) (runs p levels c m u))
  row_acts [] o c s = join_runs o.0 c o.1 s
  row_acts (x ∷ os) o c s =
      let go = λ (v : State). others_run p levels m (saved_cursor v) (o ∷ (x ∷ os)) (runs p levels c m v) in
      row_acts os x (join o.0 c o.1) s
      ∙ ap (then_on (pays (length os) s)) (fun_ext (λ u. paid_before u.steps o.0 c o.1 (x ∷ os) u))
      ∙ sym (then_then (pays (length os) s) (λ u. pay u.steps u) go)
      ∙ ap (λ e. then_on e go) (sym (pays_last (length os) s))

  grouped_acts : (c : programs.Node) (os : List JoinedView) (s : State) → act p.groupings (calls p levels) (row_node c os) m s ≡ row_runs p levels c os m s
  grouped_acts c [] s = as_it_is (runs p levels c m s)
  grouped_acts c (o ∷ os) s =
      let k : length os ≡ length (o ∷ os) - 1 = omega arith in
      row_acts os o c s ∙ ap (λ n. then_on (pays n s) (λ u. others_run p levels m (saved_cursor u) (o ∷ os) (runs p levels c m u))) k

view_row : (T : ℕ → Listing) (first : Box Node Global) (others : Vec JoinedNode Global) → view_node T (Row first others) ≡ row_node (view_node T first.value) (map (view_next_command T) others.items)
view_row T first others = first_of (search (rules, the_lemmas), search (rules, the_lemmas, fold_out-Node))

pub row_does : (T : ℕ → Listing) (p : programs.Program) (levels : ℕ) (first : Box Node Global) (others : Vec JoinedNode Global) (m : Mode) (s : State) → runs_paid p levels (view_node T (Row first others)) m s ≡ row_runs p levels (view_node T first.value) (map (view_next_command T) others.items) m s
row_does T p levels first others m s =
    ap (λ c. runs_paid p levels c m s) (view_row T first others)
    ∙ grouped_acts p levels m (view_node T first.value) (map (view_next_command T) others.items) s
