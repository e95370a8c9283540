-- What a run of a script does. Each command of its trees is defined by what its parts do. A command takes the mode m
-- and the state s. It ends with the signal t or f and a new state, or it stops the run.
use Rattle.std.specs.Prelude.{ℕ, ℤ, pos, negsuc, zero, suc, ◌+◌, ◌+ℤ◌, ◌-ℤ◌, ◌*ℤ◌, neg_ℤ, ◌-◌, Bool, true, false, not, List, [], ◌∷◌, ◌++◌, length}
use Rattle.std.specs.Prelude.{map, take, drop, replicate, nat_eq, int_lt, if◌then◌else◌, Option, Some, None, Ok, slice_index_or, slice_set}
use Rattle.std.specs.List.{find}
use Rattle.std.specs.Option.{option_map_or, unwrap_or}
use Rattle.std.specs.Ordering.{int_eq}
use Rattle.sbl_ast.specs.Order.{in_order}
use Rattle.sbl_ast.specs.declared.tree.Joiner.{Joiner}
use Rattle.sbl_ast.specs.declared.tree.Joiner.TheVariants.{Or, And}
use Rattle.sbl_ast.specs.declared.tree.Simple.{Simple}
use Rattle.sbl_ast.specs.declared.tree.Simple.TheVariants as simples
use Rattle.sbl_ast.specs.declared.tree.Prefix.{Prefix}
use Rattle.sbl_ast.specs.declared.tree.Prefix.TheVariants as prefixes
use Rattle.sbl_ast.specs.declared.tree.Count.{Count}
use Rattle.sbl_ast.specs.declared.tree.Count.TheVariants as counts
use Rattle.sbl_ast.specs.declared.tree.Move.{Move}
use Rattle.sbl_ast.specs.declared.tree.Move.TheVariants as moves
use Rattle.sbl_ast.specs.declared.tree.Naming.{Naming}
use Rattle.sbl_ast.specs.declared.tree.Naming.TheVariants as namings
use Rattle.sbl_ast.specs.declared.tree.Splice.{Splice}
use Rattle.sbl_ast.specs.declared.tree.Splice.TheVariants as splices
use Rattle.sbl_ast.specs.declared.tree.Additive.{Additive}
use Rattle.sbl_ast.specs.declared.tree.Additive.TheVariants as additives
use Rattle.sbl_ast.specs.declared.tree.Multiplicative.{Multiplicative}
use Rattle.sbl_ast.specs.declared.tree.Multiplicative.TheVariants as multiplicatives
use Rattle.sbl_ast.specs.declared.tree.Constant.{Constant}
use Rattle.sbl_ast.specs.declared.tree.Constant.TheVariants as constants
use Rattle.sbl_ast.specs.declared.tree.Assignment.{Assignment}
use Rattle.sbl_ast.specs.declared.tree.Assignment.TheVariants as assignments
use Rattle.sbl_ast.specs.declared.tree.Comparison.{Comparison}
use Rattle.sbl_ast.specs.declared.tree.Comparison.TheVariants as comparisons
use Rattle.sbl_ast.specs.Tree as trees
use Rattle.sbl_ast.specs.Tree.{bracket, simple_, literal_, name_, non_, prefixed, counted, move_, named, splice_, setlimit_, assign_}
use Rattle.sbl_ast.specs.Tree.{compare_, compare_values_, among_, no_rows, row, no_others, joined, no_starter, starter, bare, group}
use Rattle.std.specs.Cmp.Lexicographic.{pointwise}
use Rattle.sbl_ast.specs.declared.tree.DeclarationKind.TheVariants as kinds
use Rattle.sbl_semantics.specs.Fitting.{read_as, ahead_at}
use Rattle.sbl_semantics.specs.Items.{DeclaredNames, Body, is_member, place_of, body_named, char_class_of, classes_after, known_in}
use Rattle.sbl_semantics.specs.Moves.{match, one_of, hop, at_mark, to_mark}
use Rattle.sbl_semantics.specs.Numbers.{Value, natural, continue_with, value_in_range}
use Rattle.sbl_semantics.specs.Numbers.{rounded_quotient, with_value, with_both, limit_value, integer_at}
use Rattle.sbl_semantics.specs.Landmarks.{Among, Landmark, amongs_in, ends_in_substring, landmarks, landmarks_in_others, next_among}
use Rattle.sbl_semantics.specs.Landmarks.{landmarks_in_rows, landmarks_in_starter, mode_under}
use Rattle.sbl_semantics.specs.Control.{turns, times, seeks, set_limit, at_end, pay_first, enter, back_in}
use Rattle.sbl_semantics.specs.Choices.{touch_among, conclude_search}
use Rattle.sbl_semantics.specs.Slices.{is_forward, set_end, replace, keep, put_in}
use Rattle.sbl_semantics.specs.Touches.{with_touch}
use Rattle.sbl_semantics.specs.declared.touch.Touch.TheVariants.{Tested}
use Rattle.sbl_semantics.specs.Limit.{max_levels}
use Rattle.sbl_semantics.specs.State.{State, Ending, Signals, Stops, Doing, bound_of, room, after, then_on}
use Rattle.sbl_semantics.specs.State.{saved_cursor, place_after, put_back, at_place, to_limit}
use Rattle.sbl_semantics.specs.declared.fault.RunFault.TheVariants.{Depth}
use Rattle.sbl_ast.specs.Source.{Source}
use Rattle.sbl_ast.specs.declared.mode.Mode.{Mode}
use Rattle.sbl_ast.specs.declared.mode.Mode.TheVariants.{Forward, Backward}

-- ---- what a command does, given what its parts do

-- `not C`, `test C` and the other prefixes, given what C does
abbrev pub prefixed_does : Prefix → Doing → Doing
prefixed_does prefixes.Not c m s = after (c m s) (Signals false) (put_back m (saved_cursor s))
prefixed_does prefixes.Test c m s = after (c m s) (put_back m (saved_cursor s)) (Signals false)
prefixed_does prefixes.Try c m s = after (c m s) (Signals true) (put_back m (saved_cursor s))
prefixed_does prefixes.Do c m s = after (c m s) (put_back m (saved_cursor s)) (put_back m (saved_cursor s))
prefixed_does prefixes.Fail c m s = after (c m s) (Signals false) (Signals false)
prefixed_does prefixes.Repeat c m s = turns (suc s.steps) c m s
prefixed_does prefixes.GoTo c m s = seeks (suc s.steps) false c m s
prefixed_does prefixes.GoPast c m s = seeks (suc s.steps) true c m s
prefixed_does prefixes.Backwards c m s =
    then_on (to_limit Forward (record s { left = s.cursor })) (λ b. after (c Backward b) (λ t. at_place t.left t) (Signals false))

-- `loop`; and `atleast`, which is the loop followed by a `repeat` that costs no step of its own; a negative count is zero
abbrev pub counted_does : Count → Value → Doing → Doing
counted_does counts.Loop v c m s = continue_with v s (λ z. times (unwrap_or (natural z) 0) c m s)
counted_does counts.AtLeast v c m s =
    after (continue_with v s (λ z. times (unwrap_or (natural z) 0) c m s)) (λ t. turns (suc t.steps) c m t) (Signals false)

-- `C1 or C2`, `C1 and C2`: before C2 the cursor goes back to where C1 began
abbrev pub joined_does : Joiner → Doing → Doing → Doing
joined_does Or a b m s = after (a m s) (Signals true) (λ f. then_on (put_back m (saved_cursor s) f) (b m))
joined_does And a b m s = after (a m s) (λ t. then_on (put_back m (saved_cursor s) t) (b m)) (Signals false)

-- `setlimit C1 for C2`: the limit is set where C1 ends, the cursor goes back to where C1 began, and after C2 the old
-- limit is restored
abbrev pub limited_does : Doing → Doing → Doing
limited_does a b m s =
    after (a m s) (λ t. then_on (put_back m (saved_cursor s) (set_limit m t.cursor (length t.text - t.cursor) t))
    (λ u. at_end (λ signal. set_limit m s.left s.beyond) (b m u))) (Signals false)

-- commands of a single word; `substring` does the search of the next among; backwards `[` sets the right end of the slice,
-- and `]` its left end
abbrev pub simple_does : Doing → Simple → Doing
simple_does search simples.Substring m s = search m s
simple_does search simples.LeftBracket m s = Signals true (set_end (is_forward m) s)
simple_does search simples.RightBracket m s = Signals true (set_end (not (is_forward m)) s)
simple_does search simples.Next m s = hop (Some 1) m s
simple_does search simples.ToLimit m s = to_limit m s
simple_does search simples.AtLimit m s = Signals (nat_eq (room m s) 0) s
simple_does search simples.Delete m s = replace [] s
simple_does search simples.True m s = Signals true s
simple_does search simples.False m s = Signals false s

abbrev pub moved_does : Move → Value → Doing
moved_does moves.Hop v m s = continue_with v s (λ z. hop (natural z) m s)
moved_does moves.AtMark v m s = continue_with v s (λ z. at_mark (natural z) s)
moved_does moves.ToMark v m s = continue_with v s (λ z. to_mark (natural z) m s)

-- the new value of x in `$x = AE`, `$x += AE` and the like
abbrev pub assigned_value : Assignment → ℤ → ℤ → Value
assigned_value assignments.Equals x y = Ok y
assigned_value assignments.Plus x y = value_in_range (x +ℤ y)
assigned_value assignments.Minus x y = value_in_range (x -ℤ y)
assigned_value assignments.Times x y = value_in_range (x *ℤ y)
assigned_value assignments.Over x y = rounded_quotient x y

abbrev pub assigned_does : ℕ → Assignment → Value → State → Ending
assigned_does x o v s =
    continue_with (with_value v (assigned_value o (integer_at x s))) s (λ z. Signals true (record s { integers = slice_set s.integers x z }))

abbrev pub is_so : Comparison → ℤ → ℤ → Bool
is_so comparisons.Same x y = int_eq x y
is_so comparisons.Differs x y = not (int_eq x y)
is_so comparisons.Less x y = int_lt x y
is_so comparisons.AtMost x y = not (int_lt y x)
is_so comparisons.Greater x y = int_lt y x
is_so comparisons.AtLeast x y = not (int_lt x y)

abbrev pub compared_does : Value → Comparison → Value → State → Ending
compared_does v o w s = continue_with v s (λ x. continue_with w s (λ y. Signals (is_so o x y) s))

abbrev pub named_does : DeclaredNames → Naming → List ℕ → Doing
named_does ns namings.SetMark n m s = Signals true (record s { integers = slice_set s.integers (place_of (ns kinds.Integers) n) (pos s.cursor) })
named_does ns namings.Set n m s = Signals true (record s { booleans = slice_set s.booleans (place_of (ns kinds.Booleans) n) true })
named_does ns namings.Unset n m s = Signals true (record s { booleans = slice_set s.booleans (place_of (ns kinds.Booleans) n) false })
named_does ns namings.Arrow n m s = keep (place_of (ns kinds.Strings) n) s

-- `<-`; `insert` and its sign `<+` leave the cursor right of S forwards, and left of S backwards; `attach` on the other side
abbrev pub edited_does : Splice → List ℕ → Doing
edited_does splices.Replace cs m s = replace cs s
edited_does splices.InsertSign cs m s = put_in (is_forward m) cs s
edited_does splices.Insert cs m s = put_in (is_forward m) cs s
edited_does splices.Attach cs m s = put_in (not (is_forward m)) cs s

-- ---- strings and numbers, given the names of the variables

module _ (ns : DeclaredNames) where
  abbrev pub text : trees.Argument → State → List ℕ
  text (trees.written_out q) s = q.value
  text (trees.by_name n) s = slice_index_or s.strings (place_of (ns kinds.Strings) n) []

  -- `negsuc n` is -(n + 1), so `minint` is -2147483648
  abbrev pub constant_worth : Constant → Mode → State → Value
  constant_worth constants.MaxInt m s = Ok (pos 2147483647)
  constant_worth constants.MinInt m s = Ok (negsuc 2147483647)
  constant_worth constants.Cursor m s = value_in_range (pos s.cursor)
  constant_worth constants.Limit m s = limit_value m s
  constant_worth constants.Len m s = value_in_range (pos (length s.text))

  abbrev pub value_of_sum : Additive → Value → Value → Value
  value_of_sum additives.Plus v w = with_both v w (λ x y. value_in_range (x +ℤ y))
  value_of_sum additives.Minus v w = with_both v w (λ x y. value_in_range (x -ℤ y))

  abbrev pub value_of_product : Multiplicative → Value → Value → Value
  value_of_product multiplicatives.Times v w = with_both v w (λ x y. value_in_range (x *ℤ y))
  value_of_product multiplicatives.Over v w = with_both v w rounded_quotient

  abbrev mutual
    -- the value of an expression
    pub worth : trees.Expression → Mode → State → Value
    worth (trees.expression p ss) m s = value_of_sums ss (product_worth p m s) m s

    -- adds and subtracts products, from left to right
    pub value_of_sums : trees.Sums → Value → Mode → State → Value
    value_of_sums trees.no_sums v m s = v
    value_of_sums (trees.sum o p ss) v m s = value_of_sums ss (value_of_sum o v (product_worth p m s)) m s

    pub product_worth : trees.Product → Mode → State → Value
    product_worth (trees.product f ss) m s = value_of_products ss (factor_worth f m s) m s

    -- multiplies and divides factors, from left to right
    pub value_of_products : trees.Scales → Value → Mode → State → Value
    value_of_products trees.no_scales v m s = v
    value_of_products (trees.scale o f ss) v m s = value_of_products ss (value_of_product o v (factor_worth f m s)) m s

    pub factor_worth : trees.Factor → Mode → State → Value
    factor_worth (trees.negated f) m s = with_value (factor_worth f m s) (λ x. value_in_range (neg_ℤ x))
    factor_worth (trees.bracketed e) m s = worth e m s
    factor_worth (trees.numeral n) m s = value_in_range (pos n)
    factor_worth (trees.variable n) m s = Ok (integer_at (place_of (ns kinds.Integers) n) s)
    factor_worth (trees.fixed c) m s = constant_worth c m s
    factor_worth (trees.length_of a) m s = value_in_range (pos (length (text a s)))

-- ---- the search of an among

-- a string of an among, its condition, and the number of its group
pub record Offer : Type 0 where
  pub string : List ℕ
  pub condition : Option (List ℕ)
  pub group : ℕ

abbrev pub offer : ℕ → trees.Entry → Offer
offer g (trees.entry q c) = record { string = q.value; condition = c; group = g }

-- Groups are counted from 0. The strings after the last bracketed group belong to none; their group number is the
-- number of groups.
abbrev pub offers : ℕ → trees.Groups → List Offer
offers g (bare es) = map (offer g) es
offers g (group e es rs gs) = offer g e ∷ (map (offer g) es ++ offers (g + 1) gs)

module _ (call : List ℕ → Doing) where
  -- Tries one entry, if there is one. The cursor moves past the string, and the condition is called, which costs one step;
  -- without a condition the signal is t. If it signals t, the cursor moves past the string again and the entry is chosen.
  -- If it signals f, `next` continues from the state that the condition left.
  abbrev pub takes : ℕ → Option Offer → Mode → State → State → (State → Ending) → Ending
  takes k None m from s next = next s
  takes k (Some o) m from s next =
      then_on (place_after m (saved_cursor from) (length o.string) s) (λ a.
      after (option_map_or (λ n. pay_first (call n) m a) o.condition (Signals true a))
      (λ b. then_on (place_after m (saved_cursor from) (length o.string) b)
      (λ c. Signals true (conclude_search k (Some (length o.string)) (Some o.group) c))) next)

  -- Tries the entries whose strings are a prefix of x, longest first, and of each length the first entry only. The last
  -- argument is one more than the longest length to try. The state `from` is the one in which the search began. If no
  -- entry is taken, none is chosen and the signal is f.
  abbrev pub try_each : ℕ → List Offer → Mode → Mode → State → List ℕ → ℕ → State → Ending
  try_each k os r m from x zero s = Signals false (conclude_search k None None s)
  try_each k os r m from x (suc l) s =
      takes k (find (λ o. pointwise nat_eq (take l x) (read_as r o.string)) os) m from s (try_each k os r m from x l)

  -- touches the among, whether or not it finds a string, and searches the text ahead; the strings and the text are both
  -- read in the mode of the among's place
  abbrev pub search : Among → Doing
  search a m s =
      let t = touch_among a.number m s in
      let x = ahead_at a.mode t.text t.cursor (bound_of m t) in
      try_each a.number (offers 0 a.groups) a.mode m t x (suc (length x)) t

-- ---- what a command does, given the names of the script, its groupings, and what a call of each routine does

-- a test of a grouping touches it, whatever the result
abbrev pub tests : DeclaredNames → (List ℕ → ℕ → Bool) → Bool → List ℕ → Doing
tests ns class wanted n m s = one_of wanted (class n) m (record s { touched = with_touch (Tested (place_of (ns kinds.Groupings) n)) s.touched })

module _ (ns : DeclaredNames) (class : List ℕ → ℕ → Bool) (call : List ℕ → Doing) where
  -- a name alone: a string variable, a boolean, a grouping, or else a routine to call
  abbrev pub name_does : List ℕ → Doing
  name_does n m s =
      if is_member (ns kinds.Strings) n then match (slice_index_or s.strings (place_of (ns kinds.Strings) n) []) m s else
      if is_member (ns kinds.Booleans) n then Signals (slice_index_or s.booleans (place_of (ns kinds.Booleans) n) false) s else
      if is_member (ns kinds.Groupings) n then tests ns class true n m s else call n m s

  -- searches the among at landmark i of a routine with these landmarks, or that of the `substring` there; f if there is none
  abbrev pub search_at : List Landmark → ℕ → Doing
  search_at ls i m s = option_map_or (λ a. search call a m s) (next_among (amongs_in (take i ls)) (drop i ls)) (Signals false s)

  module _ (ls : List Landmark) where
    abbrev mutual
      -- What a command does after its step is paid, in a routine with these landmarks. r is the mode of its place, and i
      -- the number of landmarks before it. An among first makes its own search, and on t runs its starter; if a
      -- `substring` belongs to it, that search has been made, and the among skips both.
      pub act : Mode → ℕ → trees.Command → Doing
      act r i (bracket rs) m s = rows_do r i rs m s
      act r i (simple_ x) m s = simple_does (search_at ls i) x m s
      act r i (literal_ q) m s = match q.value m s
      act r i (name_ x) m s = name_does x m s
      act r i (non_ b x) m s = tests ns class false x m s
      act r i (prefixed x c) m s = prefixed_does x (pay_first (act (mode_under x r) i c)) m s
      act r i (counted x e c) m s = counted_does x (worth ns e m s) (pay_first (act r i c)) m s
      act r i (move_ x e) m s = moved_does x (worth ns e m s) m s
      act r i (named x y) m s = named_does ns x y m s
      act r i (splice_ x a) m s = edited_does x (text ns a s) m s
      act r i (setlimit_ b c) m s = limited_does (pay_first (act r i b)) (pay_first (act r (i + length (landmarks r b)) c)) m s
      act r i (assign_ x o e) m s = assigned_does (place_of (ns kinds.Integers) x) o (worth ns e m s) s
      act r i (compare_ x o e) m s = compared_does (Ok (integer_at (place_of (ns kinds.Integers) x) s)) o (worth ns e m s) s
      act r i (compare_values_ e o f) m s = compared_does (worth ns e m s) o (worth ns f m s) s
      act r i (among_ st gs) m s =
          let before = take i ls in
          after (if ends_in_substring before then Signals true s
          else after (pay_first (search_at ls i) m s) (starter_does r (i + 1) st m) (Signals false))
          (λ t. option_map_or (λ g. group_does r (i + 1 + length (landmarks_in_starter r st)) gs g m t)
          (slice_index_or t.choices (amongs_in before) None) (Signals false t)) (Signals false)

      -- runs the rows in order, up to the first that signals f
      pub rows_do : Mode → ℕ → trees.Rows → Doing
      rows_do r i no_rows m s = Signals true s
      rows_do r i (row c os rs) m s =
          after (pay_first (others_do r (i + length (landmarks r c)) os (act r i c)) m s)
          (rows_do r (i + length (landmarks r c) + length (landmarks_in_others r os)) rs m) (Signals false)

      -- joins commands from the left: d is what the commands so far do
      pub others_do : Mode → ℕ → trees.Others → Doing → Doing
      others_do r i no_others d m s = d m s
      others_do r i (joined j c os) d m s = others_do r (i + length (landmarks r c)) os (joined_does j (pay_first d) (pay_first (act r i c))) m s

      pub starter_does : Mode → ℕ → trees.Starter → Doing
      starter_does r i no_starter m s = Signals true s
      starter_does r i (starter rs) m s = pay_first (rows_do r i rs) m s

      -- the command of group number g; t if that group has none
      pub group_does : Mode → ℕ → trees.Groups → ℕ → Doing
      group_does r i (bare es) g m s = Signals true s
      group_does r i (group e es rs gs) zero m s = pay_first (rows_do r i rs) m s
      group_does r i (group e es rs gs) (suc g) m s = group_does r (i + length (landmarks_in_rows r rs) + 1) gs g m s

  -- A call touches the routine and begins with nothing chosen. When it returns, the caller's choices are restored.
  abbrev pub body_does : List ℕ → Option Body → Doing
  body_does n None m s = Signals false s
  body_does n (Some b) m s =
      let ls = landmarks b.mode b.first ++ landmarks_in_others b.mode b.others in
      at_end (back_in s.routine s.choices)
      (pay_first (others_do ls b.mode (length (landmarks b.mode b.first)) b.others (act ls b.mode 0 b.first)) m
      (enter (place_of (ns kinds.Routines) n) (amongs_in ls) s))

-- ---- runs

-- what a call does if at most this many levels of calls are left
abbrev pub calls : DeclaredNames → (List ℕ → ℕ → Bool) → (List ℕ → Option Body) → ℕ → List ℕ → Doing
calls ns class bodies zero n m s = Stops Depth s
calls ns class bodies (suc l) n m s = body_does ns class (calls ns class bodies l) n (bodies n) m s

-- the state in which a run begins: all integers are 0, all booleans false, all strings empty, and nothing is touched
abbrev pub start : DeclaredNames → List ℕ → ℕ → State
start ns word steps = record {
  text = word;
  cursor = 0;
  left = 0;
  beyond = 0;
  bra = 0;
  ket = 0;
  integers = replicate (length (ns kinds.Integers)) (pos 0);
  booleans = replicate (length (ns kinds.Booleans)) false;
  strings = replicate (length (ns kinds.Strings)) [];
  choices = [];
  routine = 0;
  touched = [];
  events = None;
  steps = steps;
}

-- How a run of a script on a word ends. The external's body runs forwards, on the first level.
unfoldable pub ending : Source → List ℕ → ℕ → Ending
ending script word limit =
    let items = in_order script.items in
    calls (known_in items) (char_class_of (classes_after items [])) (body_named items) max_levels script.external Forward
    (start (known_in items) word limit)

-- the same run, with its events recorded
unfoldable pub ending_with_events : Source → List ℕ → ℕ → Ending
ending_with_events script word limit =
    let items = in_order script.items in
    calls (known_in items) (char_class_of (classes_after items [])) (body_named items) max_levels script.external Forward
    (record (start (known_in items) word limit) { events = Some [] })
