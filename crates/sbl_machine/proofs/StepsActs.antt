-- Each command with more steps left.
use Rattle.std.proofs.Common.{◌≡◌, ℕ, zero, suc, ◌+◌, ◌-◌, ◌<◌, Bool, true, false, List, [], length, Option, Some, None, refl, sym, ap, subst, ◌∙◌, arith}
use Rattle.std.specs.Prelude.{ℤ, ◌&&◌, nat_le, nat_eq, neg_ℤ, slice_get, take}
use Rattle.std.specs.List.{starts_with}
use Rattle.sbl_ast.specs.declared.tree.Assignment.{Assignment}
use Rattle.sbl_ast.specs.declared.tree.Comparison.{Comparison}
use Rattle.sbl_ast.specs.declared.tree.Constant.{Constant}
use Rattle.sbl_ast.specs.declared.tree.Constant.TheVariants as constants
use Rattle.sbl_ast.specs.declared.tree.Count.{Count}
use Rattle.sbl_ast.specs.declared.tree.Count.TheVariants as counts
use Rattle.sbl_ast.specs.declared.tree.Joiner.{Joiner}
use Rattle.sbl_ast.specs.declared.tree.Joiner.TheVariants.{Or, And}
use Rattle.sbl_ast.specs.declared.tree.Move.{Move}
use Rattle.sbl_ast.specs.declared.tree.Move.TheVariants as moves
use Rattle.sbl_ast.specs.declared.tree.Naming.{Naming}
use Rattle.sbl_ast.specs.declared.tree.Naming.TheVariants as namings
use Rattle.sbl_ast.specs.declared.tree.Prefix.{Prefix}
use Rattle.sbl_ast.specs.declared.tree.Prefix.TheVariants as prefixes
use Rattle.sbl_ast.specs.declared.tree.Simple.{Simple}
use Rattle.sbl_ast.specs.declared.tree.Simple.TheVariants as simples
use Rattle.sbl_ast.specs.declared.tree.Splice.{Splice}
use Rattle.sbl_ast.specs.declared.tree.Splice.TheVariants as splices
use Rattle.sbl_ast.specs.Tree as trees
use Rattle.sbl_semantics.specs.Fitting.{read_as, ahead_at}
use Rattle.sbl_semantics.specs.Items.{DeclaredNames, place_of}
use Rattle.sbl_semantics.specs.Landmarks.{Among}
use Rattle.sbl_semantics.specs.declared.fault.RunFault.TheVariants as faults
use Rattle.sbl_semantics.specs.declared.limits.Limits.{Limits}
use Rattle.sbl_semantics.specs.Meaning as meaning
use Rattle.sbl_semantics.specs.inside.MeaningParts as parts
use Rattle.sbl_semantics.specs.Meaning.{Offer, prefixed_does, counted_does, joined_does, limited_does, simple_does, moved_does, assigned_does, compared_does, named_does, edited_does, takes, try_each, search}
use Rattle.sbl_semantics.specs.inside.MeaningParts.{begins}
use Rattle.sbl_semantics.specs.Moves.{match, one_of, hop, at_mark, to_mark}
use Rattle.sbl_semantics.specs.inside.MoveParts.{next_is}
use Rattle.sbl_semantics.specs.Numbers.{Value, value_in_range, natural, with_value, integer_at}
use Rattle.sbl_semantics.specs.Control.{turns, times, count_of, limits, restore_limit, limit_here, limit_back, backwards_from, backwards_end, with_group, pay_first}
use Rattle.sbl_semantics.specs.Choices.{take_string, touch_among}
use Rattle.sbl_semantics.specs.Slices.{is_slice, replace_slice, replace, keep, insert_string, put_in}
use Rattle.sbl_semantics.specs.State.{State, bound_of, Ending, Signals, Stops, Doing, ahead, after, then_on, room, saved_cursor, place_after, put_back}
use Rattle.sbl_machine.proofs.Steps.{more, Goes, Steady, Pays, signals_go, steady_goes, then_goes, if_goes, given_goes, pays_go, paid_go, at_place_go, to_limit_go, put_back_go, place_after_go, next_go, turns_goes, times_go, seeks_goes}
use Rattle.std.proofs.Math.Path.{fun_ext}
use Rattle.sbl_ast.specs.declared.tree.DeclarationKind.TheVariants as kinds
use Rattle.sbl_ast.specs.declared.mode.Mode.{Mode}
use Rattle.sbl_ast.specs.declared.mode.Mode.TheVariants.{Forward, Backward}

-- ---- the slice and the text

pub replace_go : (cs : List ℕ) → Steady (replace cs)
replace_go cs k n s l = if_goes k n (is_slice s) _ _ _ _ (if_goes k n (nat_le (length s.text + length cs - (s.ket - s.bra)) 1024) (Signals true (replace_slice cs s)) (Stops faults.TooLong s) (Signals true (replace_slice cs (more k s))) (Stops faults.TooLong (more k s)) (l, refl) (l, refl)) (l, refl)

keep_go : (x : ℕ) → Steady (keep x)
keep_go x k n s l = if_goes k n (is_slice s) _ _ _ _ (l, refl) (l, refl)

put_in_go : (right : Bool) (cs : List ℕ) → Steady (put_in right cs)
put_in_go right cs k n s l = if_goes k n (nat_le (s.cursor + s.beyond) (length s.text)) _ _ _ _ (if_goes k n (nat_le (length s.text + length cs) 1024) (Signals true (insert_string right cs s)) (Stops faults.TooLong s) (Signals true (insert_string right cs (more k s))) (Stops faults.TooLong (more k s)) (l, refl) (l, refl)) (l, refl)

pub edited_go : (x : Splice) (cs : List ℕ) (m : Mode) → Steady (edited_does x cs m)
edited_go splices.Replace cs m k n s l = replace_go cs k n s l
edited_go splices.InsertSign cs Backward k n s l = put_in_go false cs k n s l
edited_go splices.Insert cs Backward k n s l = put_in_go false cs k n s l
edited_go splices.Attach cs Forward k n s l = put_in_go false cs k n s l
edited_go _ cs _ k n s l = put_in_go true cs k n s l

pub named_go : (ns : DeclaredNames) (x : Naming) (y : List ℕ) (m : Mode) → Steady (named_does ns x y m)
named_go ns namings.Arrow y m k n s l = keep_go (place_of (ns kinds.Strings) y) k n s l
named_go ns _ y m k n s l = (l, refl)

-- ---- moving and testing

pub match_go : (cs : List ℕ) (m : Mode) → Steady (match cs m)
match_go cs Forward k n s l = if_goes k n (starts_with nat_eq (ahead Forward s) (read_as Forward cs)) _ _ _ _ (l, refl) (l, refl)
match_go cs Backward k n s l = if_goes k n (starts_with nat_eq (ahead Backward s) (read_as Backward cs)) _ _ _ _ (l, refl) (l, refl)

pub class_go : (wanted : Bool) (has : ℕ → Bool) (m : Mode) → Steady (one_of wanted has m)
class_go wanted has Forward k n s l = if_goes k n (next_is wanted has (slice_get (ahead Forward s) 0)) _ _ _ _ (l, refl) (l, refl)
class_go wanted has Backward k n s l = if_goes k n (next_is wanted has (slice_get (ahead Backward s) 0)) _ _ _ _ (l, refl) (l, refl)

hop_go : (o : Option ℕ) (m : Mode) → Steady (hop o m)
hop_go None m k n s l = (l, refl)
hop_go (Some i) Forward k n s l = if_goes k n (nat_le i (room Forward s)) _ _ _ _ (l, refl) (l, refl)
hop_go (Some i) Backward k n s l = if_goes k n (nat_le i (room Backward s)) _ _ _ _ (l, refl) (l, refl)

at_mark_go : (o : Option ℕ) → Steady (at_mark o)
at_mark_go None k n s l = (l, refl)
at_mark_go (Some i) k n s l = (l, refl)

to_mark_go : (o : Option ℕ) (m : Mode) → Steady (to_mark o m)
to_mark_go None m k n s l = (l, refl)
to_mark_go (Some i) Forward k n s l = if_goes k n (nat_le s.cursor i && nat_le (i + s.beyond) (length s.text)) _ _ _ _ (l, refl) (l, refl)
to_mark_go (Some i) Backward k n s l = if_goes k n (nat_le s.left i && nat_le i s.cursor) _ _ _ _ (l, refl) (l, refl)

pub moved_goes : (x : Move) (k n : ℕ) (m : Mode) (s : State) (v v' : Value) → v' ≡ v → s.steps < n → Goes k n (moved_does x v m s) (moved_does x v' m (more k s))
moved_goes moves.Hop k n m s v v' e l = given_goes k n v v' s (λ z. hop (natural z) m s) (λ z. hop (natural z) m (more k s)) e l (λ z. hop_go (natural z) m k n s l)
moved_goes moves.AtMark k n m s v v' e l = given_goes k n v v' s (λ z. at_mark (natural z) s) (λ z. at_mark (natural z) (more k s)) e l (λ z. at_mark_go (natural z) k n s l)
moved_goes moves.ToMark k n m s v v' e l = given_goes k n v v' s (λ z. to_mark (natural z) m s) (λ z. to_mark (natural z) m (more k s)) e l (λ z. to_mark_go (natural z) m k n s l)

pub simple_go : (d : Doing) → ((m : Mode) → Steady (d m)) → (x : Simple) (m : Mode) → Steady (simple_does d x m)
simple_go d h simples.Substring m k n s l = h m k n s l
simple_go d h simples.LeftBracket Forward k n s l = (l, refl)
simple_go d h simples.LeftBracket Backward k n s l = (l, refl)
simple_go d h simples.RightBracket Forward k n s l = (l, refl)
simple_go d h simples.RightBracket Backward k n s l = (l, refl)
simple_go d h simples.Next m k n s l = next_go m k n s l
simple_go d h simples.ToLimit m k n s l = to_limit_go m k n s l
simple_go d h simples.AtLimit Forward k n s l = (l, refl)
simple_go d h simples.AtLimit Backward k n s l = (l, refl)
simple_go d h simples.Delete m k n s l = replace_go [] k n s l
simple_go d h simples.True m k n s l = (l, refl)
simple_go d h simples.False m k n s l = (l, refl)

-- ---- numbers

pub assigned_goes : (x : ℕ) (o : Assignment) (k n : ℕ) (s : State) (v v' : Value) → v' ≡ v → s.steps < n → Goes k n (assigned_does x o v s) (assigned_does x o v' (more k s))
assigned_goes x o k n s v v' e l =
    given_goes k n (with_value v (meaning.assigned_value o (integer_at x s))) (with_value v' (meaning.assigned_value o (integer_at x s))) s _ _
    (ap (λ w. with_value w (meaning.assigned_value o (integer_at x s))) e) l (λ z. (l, refl))

pub compared_goes : (o : Comparison) (k n : ℕ) (s : State) (v v' w w' : Value) → v' ≡ v → w' ≡ w → s.steps < n → Goes k n (compared_does v o w s) (compared_does v' o w' (more k s))
compared_goes o k n s v v' w w' e f l = given_goes k n v v' s _ _ e l (λ x. given_goes k n w w' s _ _ f l (λ y. (l, refl)))

pub text_more : (ns : DeclaredNames) (a : trees.Argument) (k : ℕ) (s : State) → meaning.text ns a (more k s) ≡ meaning.text ns a s
text_more ns (trees.written_out q) k s = refl
text_more ns (trees.by_name x) k s = refl

constant_more : (ns : DeclaredNames) (c : Constant) (m : Mode) (k : ℕ) (s : State) → meaning.constant_worth ns c m (more k s) ≡ meaning.constant_worth ns c m s
constant_more ns constants.MaxInt m k s = refl
constant_more ns constants.MinInt m k s = refl
constant_more ns constants.Cursor m k s = refl
constant_more ns constants.Limit Forward k s = refl
constant_more ns constants.Limit Backward k s = refl
constant_more ns constants.Len m k s = refl

module _ (ns : DeclaredNames) (m : Mode) (k : ℕ) (s : State) where
  mutual
    pub worth_more : (e : trees.Expression) → meaning.worth ns e m (more k s) ≡ meaning.worth ns e m s
    worth_more (trees.expression p ss) = ap (λ v. meaning.value_of_sums ns ss v m (more k s)) (product_more p) ∙ sums_more ss (meaning.product_worth ns p m s)

    sums_more : (ss : trees.Sums) (v : Value) → meaning.value_of_sums ns ss v m (more k s) ≡ meaning.value_of_sums ns ss v m s
    sums_more trees.no_sums v = refl
    sums_more (trees.sum o p ss) v = ap (λ w. meaning.value_of_sums ns ss (meaning.value_of_sum ns o v w) m (more k s)) (product_more p) ∙ sums_more ss (meaning.value_of_sum ns o v (meaning.product_worth ns p m s))

    product_more : (p : trees.Product) → meaning.product_worth ns p m (more k s) ≡ meaning.product_worth ns p m s
    product_more (trees.product f ss) = ap (λ v. meaning.value_of_products ns ss v m (more k s)) (factor_more f) ∙ scales_more ss (meaning.factor_worth ns f m s)

    scales_more : (ss : trees.Scales) (v : Value) → meaning.value_of_products ns ss v m (more k s) ≡ meaning.value_of_products ns ss v m s
    scales_more trees.no_scales v = refl
    scales_more (trees.scale o f ss) v = ap (λ w. meaning.value_of_products ns ss (meaning.value_of_product ns o v w) m (more k s)) (factor_more f) ∙ scales_more ss (meaning.value_of_product ns o v (meaning.factor_worth ns f m s))

    factor_more : (f : trees.Factor) → meaning.factor_worth ns f m (more k s) ≡ meaning.factor_worth ns f m s
    factor_more (trees.negated f) = ap (λ v. with_value v (λ x. value_in_range (neg_ℤ x))) (factor_more f)
    factor_more (trees.bracketed e) = worth_more e
    factor_more (trees.numeral i) = refl
    factor_more (trees.variable x) = refl
    factor_more (trees.fixed c) = constant_more ns c m k s
    factor_more (trees.length_of a) = ap (λ cs. value_in_range (ℤ.pos (length cs))) (text_more ns a k s)

-- ---- commands with commands inside

pub prefixed_go : (x : Prefix) (c : Doing) → Pays c → (m : Mode) → Steady (prefixed_does x c m)
prefixed_go prefixes.Not c h m k n s l = steady_goes k n (c m s) (c m (more k s)) (Signals false) (put_back m (saved_cursor s)) (pays_go c h m k n s l) (signals_go false) (put_back_go m (saved_cursor s))
prefixed_go prefixes.Test c h m k n s l = steady_goes k n (c m s) (c m (more k s)) (put_back m (saved_cursor s)) (Signals false) (pays_go c h m k n s l) (put_back_go m (saved_cursor s)) (signals_go false)
prefixed_go prefixes.Try c h m k n s l = steady_goes k n (c m s) (c m (more k s)) (Signals true) (put_back m (saved_cursor s)) (pays_go c h m k n s l) (signals_go true) (put_back_go m (saved_cursor s))
prefixed_go prefixes.Do c h m k n s l = steady_goes k n (c m s) (c m (more k s)) (put_back m (saved_cursor s)) (put_back m (saved_cursor s)) (pays_go c h m k n s l) (put_back_go m (saved_cursor s)) (put_back_go m (saved_cursor s))
prefixed_go prefixes.Fail c h m k n s l = steady_goes k n (c m s) (c m (more k s)) (Signals false) (Signals false) (pays_go c h m k n s l) (signals_go false) (signals_go false)
prefixed_go prefixes.Repeat c h m k n s l = turns_goes c h m k n (suc s.steps) (suc (s.steps + k)) s (omega arith) (omega arith) l
prefixed_go prefixes.GoTo c h m k n s l = seeks_goes false c h m k n (suc s.steps) (suc (s.steps + k)) s (omega arith) (omega arith) l
prefixed_go prefixes.GoPast c h m k n s l = seeks_goes true c h m k n (suc s.steps) (suc (s.steps + k)) s (omega arith) (omega arith) l
prefixed_go prefixes.Backwards c h m k n s l =
    then_goes k n (backwards_from s) (backwards_from (more k s)) (λ b. after (c Backward b) backwards_end (Signals false)) (to_limit_go Forward k n (record s { left = s.cursor }) l)
    (λ k n b i. steady_goes k n (c Backward b) (c Backward (more k b)) backwards_end (Signals false) (pays_go c h Backward k n b i) (λ k n t j. at_place_go t.left k n t j) (signals_go false))

turns_go : (c : Doing) → Pays c → (m : Mode) → Steady (λ t. turns (suc t.steps) c m t)
turns_go c h m k n s l = turns_goes c h m k n (suc s.steps) (suc (s.steps + k)) s (omega arith) (omega arith) l

loop_goes : (c : Doing) → Pays c → (m : Mode) (k n : ℕ) (s : State) (v v' : Value) → v' ≡ v → s.steps < n → Goes k n (counted_does counts.Loop v c m s) (counted_does counts.Loop v' c m (more k s))
loop_goes c h m k n s v v' e l = given_goes k n v v' s (λ z. times (count_of z) c m s) (λ z. times (count_of z) c m (more k s)) e l (λ z. times_go c h (count_of z) m k n s l)

pub counted_goes : (x : Count) (c : Doing) → Pays c → (m : Mode) (k n : ℕ) (s : State) (v v' : Value) → v' ≡ v → s.steps < n → Goes k n (counted_does x v c m s) (counted_does x v' c m (more k s))
counted_goes counts.Loop c h m k n s v v' e l = loop_goes c h m k n s v v' e l
counted_goes counts.AtLeast c h m k n s v v' e l =
    steady_goes k n (counted_does counts.Loop v c m s) (counted_does counts.Loop v' c m (more k s)) (λ t. turns (suc t.steps) c m t) (Signals false)
    (loop_goes c h m k n s v v' e l) (turns_go c h m) (signals_go false)

pub joined_go : (j : Joiner) (a b : Doing) → Pays a → Pays b → (m : Mode) → Steady (joined_does j a b m)
joined_go Or a b h i m k n s l =
    steady_goes k n (a m s) (a m (more k s)) (Signals true) (λ f. then_on (put_back m (saved_cursor s) f) (b m)) (pays_go a h m k n s l) (signals_go true)
    (λ k n f j. then_goes k n (put_back m (saved_cursor s) f) (put_back m (saved_cursor s) (more k f)) (b m) (put_back_go m (saved_cursor s) k n f j) (pays_go b i m))
joined_go And a b h i m k n s l =
    steady_goes k n (a m s) (a m (more k s)) (λ f. then_on (put_back m (saved_cursor s) f) (b m)) (Signals false) (pays_go a h m k n s l)
    (λ k n f j. then_goes k n (put_back m (saved_cursor s) f) (put_back m (saved_cursor s) (more k f)) (b m) (put_back_go m (saved_cursor s) k n f j) (pays_go b i m))
    (signals_go false)

limit_here_go : (m : Mode) (from : Limits) (b : Doing) → Pays b → Steady (λ u. restore_limit m from (b m u))
limit_here_go Forward from b i k n s l = steady_goes k n (b Forward s) (b Forward (more k s)) (λ t. Signals true (limit_back Forward from t)) (λ t. Signals false (limit_back Forward from t)) (pays_go b i Forward k n s l) (λ k n t j. (j, refl)) (λ k n t j. (j, refl))
limit_here_go Backward from b i k n s l = steady_goes k n (b Backward s) (b Backward (more k s)) (λ t. Signals true (limit_back Backward from t)) (λ t. Signals false (limit_back Backward from t)) (pays_go b i Backward k n s l) (λ k n t j. (j, refl)) (λ k n t j. (j, refl))

back_here_go : (m : Mode) (s : State) → Steady (λ t. put_back m (saved_cursor s) (limit_here m t))
back_here_go Forward s k n t j = put_back_go Forward (saved_cursor s) k n (limit_here Forward t) j
back_here_go Backward s k n t j = put_back_go Backward (saved_cursor s) k n (limit_here Backward t) j

pub limited_go : (a b : Doing) → Pays a → Pays b → (m : Mode) → Steady (limited_does a b m)
limited_go a b h i m k n s l =
    let within : State → Ending = λ u. restore_limit m (limits s) (b m u) in
    steady_goes k n (a m s) (a m (more k s)) (λ t. then_on (put_back m (saved_cursor s) (limit_here m t)) within) (Signals false) (pays_go a h m k n s l)
    (λ k n t j. then_goes k n (put_back m (saved_cursor s) (limit_here m t)) (put_back m (saved_cursor s) (limit_here m (more k t))) within (back_here_go m s k n t j) (limit_here_go m (limits s) b i))
    (signals_go false)

pub begins_go : (waits : Bool) (d b : Doing) → ((m : Mode) → Steady (d m)) → ((m : Mode) → Steady (b m)) → (m : Mode) → Steady (begins waits d b m)
begins_go true d b h i m k n s l = (l, refl)
begins_go false d b h i m k n s l = steady_goes k n (pay_first d m s) (pay_first d m (more k s)) (b m) (Signals false) (paid_go d h m k n s l) (i m) (signals_go false)

pub chosen_goes : (k n : ℕ) (o : Option ℕ) (s : State) (go go' : ℕ → Ending) → s.steps < n → ((g : ℕ) → Goes k n (go g) (go' g)) → Goes k n (with_group o s go) (with_group o (more k s) go')
chosen_goes k n None s go go' l h = (l, refl)
chosen_goes k n (Some g) s go go' l h = h g

-- ---- searches

module _ (call : List ℕ → Doing) (go : (x : List ℕ) (m : Mode) → Steady (call x m)) where
  condition_go : (o : Option (List ℕ)) (m : Mode) → Steady (parts.condition_does call o m)
  condition_go None m k n s l = (l, refl)
  condition_go (Some x) m k n s l = paid_go (call x) (go x) m k n s l

  take_go : (i : ℕ) (o : Option Offer) (m : Mode) (from : State) (next : State → Ending) → Steady next → Steady (λ s. takes call i o m from s next)
  take_go i None m from next h k n s l = h k n s l
  take_go i (Some o) m from next h k n s l =
      let to = place_after m (saved_cursor from) (length o.string) in
      let to_go = place_after_go m (saved_cursor from) (length o.string) in
      let taken : State → Ending = λ b. then_on (to b) (λ c. Signals true (take_string i (length o.string) o.group c)) in
      then_goes k n (to s) (to (more k s)) (λ a. after (parts.condition_does call o.condition m a) taken next) (to_go k n s l)
      (λ k n a j. steady_goes k n (parts.condition_does call o.condition m a) (parts.condition_does call o.condition m (more k a)) taken next (condition_go o.condition m k n a j)
      (λ k n b p. then_goes k n (to b) (to (more k b)) (λ c. Signals true (take_string i (length o.string) o.group c)) (to_go k n b p) (λ k n c q. (q, refl)))
      h)

  tried_go : (i : ℕ) (os : List Offer) (r m : Mode) (from : State) (x : List ℕ) (l : ℕ) → Steady (try_each call i os r m from x l)
  tried_go i os r m from x zero k n s j = (j, refl)
  tried_go i os r m from x (suc l) k n s j = take_go i (parts.offering r (take l x) os) m from (try_each call i os r m from x l) (tried_go i os r m from x l) k n s j

  -- of the state in which a search began only its cursor counts
  take_same : (i : ℕ) (o : Option Offer) (m : Mode) (from : State) (k : ℕ) (next next' : State → Ending) (s : State) → next ≡ next' → takes call i o m (more k from) s next ≡ takes call i o m from s next'
  take_same i None m from k next next' s e = ap (λ f. f s) e
  take_same i (Some o) m from k next next' s e = ap (takes call i (Some o) m from s) e

  tried_same : (i : ℕ) (os : List Offer) (r m : Mode) (from : State) (k : ℕ) (x : List ℕ) (l : ℕ) (s : State) → try_each call i os r m (more k from) x l s ≡ try_each call i os r m from x l s
  tried_same i os r m from k x zero s = refl
  tried_same i os r m from k x (suc l) s = take_same i (parts.offering r (take l x) os) m from k _ _ s (fun_ext (tried_same i os r m from k x l))

  search_goes : (a : Among) (m : Mode) (x : List ℕ) (k n : ℕ) (s : State) → s.steps < n → Goes k n (try_each call a.number (meaning.offers 0 a.groups) a.mode m s x (suc (length x)) s) (try_each call a.number (meaning.offers 0 a.groups) a.mode m (more k s) x (suc (length x)) (more k s))
  search_goes a m x k n s l =
      let os = meaning.offers 0 a.groups in
      subst (Goes k n (try_each call a.number os a.mode m s x (suc (length x)) s)) (sym (tried_same a.number os a.mode m s k x (suc (length x)) (more k s)))
      (tried_go a.number os a.mode m s x (suc (length x)) k n s l)

  pub search_go : (a : Among) (m : Mode) → Steady (search call a m)
  search_go a Forward k n s l = search_goes a Forward (ahead_at a.mode s.text s.cursor (bound_of Forward s)) k n (touch_among a.number Forward s) l
  search_go a Backward k n s l = search_goes a Backward (ahead_at a.mode s.text s.cursor (bound_of Backward s)) k n (touch_among a.number Backward s) l
