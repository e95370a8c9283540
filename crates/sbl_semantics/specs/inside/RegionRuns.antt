-- What a run of a script does, command by command: which among a `substring` belongs to is worked out where it is met. Meaning.antt
-- says the same by the landmarks of each routine; the proofs go by this form, since it follows the trees.
use Rattle.std.specs.Prelude.{ℕ, zero, suc, Bool, true, false, List, []}
use Rattle.std.specs.Prelude.{if◌then◌else◌, Option, Some, None, Ok, slice_index_or}
use Rattle.std.specs.Option.{option_map_or}
use Rattle.sbl_ast.specs.Order.{in_order}
use Rattle.sbl_ast.specs.Tree as trees
use Rattle.sbl_ast.specs.Tree.{bracket, simple_, literal_, name_, non_, prefixed, counted, move_, named, splice_, setlimit_, assign_}
use Rattle.sbl_ast.specs.Tree.{compare_, compare_values_, among_, no_rows, row, no_others, joined, no_starter, starter, bare, group}
use Rattle.sbl_ast.specs.declared.tree.DeclarationKind.TheVariants as kinds
use Rattle.sbl_semantics.specs.Items.{DeclaredNames, Body, place_of, body_named, char_class_of, classes_after, known_in}
use Rattle.sbl_semantics.specs.Moves.{match}
use Rattle.sbl_semantics.specs.Numbers.{integer_at}
use Rattle.sbl_semantics.specs.Landmarks.{Among, mode_under}
use Rattle.sbl_semantics.specs.Regions.{number_after, number_after_rows, number_after_others}
use Rattle.sbl_semantics.specs.Regions.{number_after_starter, first_rows, first_others, first, waits, waits_others}
use Rattle.sbl_semantics.specs.Control.{at_end, pay_first, enter, back_in}
use Rattle.sbl_semantics.specs.Limit.{max_levels}
use Rattle.sbl_semantics.specs.State.{Ending, Signals, Stops, Doing, after}
use Rattle.sbl_semantics.specs.declared.fault.RunFault.TheVariants.{Depth}
use Rattle.sbl_ast.specs.Source.{Source}
use Rattle.sbl_ast.specs.declared.mode.Mode.{Mode}
use Rattle.sbl_ast.specs.declared.mode.Mode.TheVariants.{Forward}
use Rattle.sbl_semantics.specs.Meaning.{prefixed_does, counted_does, joined_does, limited_does, simple_does, moved_does, assigned_does}
use Rattle.sbl_semantics.specs.Meaning.{compared_does, named_does, edited_does, text, worth, search, tests, name_does, start}

module _ (ns : DeclaredNames) (class : List ℕ → ℕ → Bool) (call : List ℕ → Doing) where
  abbrev mutual
    -- What a command does after its step is paid. r is the mode of its place. k is the number of amongs before it in
    -- its routine. w says whether a `substring` of its region waits for an among. n is the next among of its region
    -- after the command; a `substring` without one signals f. An among first makes its own search, and on t runs its
    -- starter; if a `substring` waits for it, that search has been made, and the among skips both.
    pub act : Mode → ℕ → Bool → Option Among → trees.Command → Doing
    act r k w n (bracket rs) m s = rows_do r k w n rs m s
    act r k w n (simple_ x) m s = simple_does (λ m s. option_map_or (λ a. search call a m s) n (Signals false s)) x m s
    act r k w n (literal_ q) m s = match q.value m s
    act r k w n (name_ x) m s = name_does ns class call x m s
    act r k w n (non_ b x) m s = tests ns class false x m s
    act r k w n (prefixed x c) m s = prefixed_does x (pay_first (act (mode_under x r) k w n c)) m s
    act r k w n (counted x e c) m s = counted_does x (worth ns e m s) (pay_first (act r k w n c)) m s
    act r k w n (move_ x e) m s = moved_does x (worth ns e m s) m s
    act r k w n (named x y) m s = named_does ns x y m s
    act r k w n (splice_ x a) m s = edited_does x (text ns a s) m s
    act r k w n (setlimit_ b c) m s =
        limited_does (pay_first (act r k w (first r c (number_after b k) n) b)) (pay_first (act r (number_after b k) (waits b w) n c)) m s
    act r k w n (assign_ x o e) m s = assigned_does (place_of (ns kinds.Integers) x) o (worth ns e m s) s
    act r k w n (compare_ x o e) m s = compared_does (Ok (integer_at (place_of (ns kinds.Integers) x) s)) o (worth ns e m s) s
    act r k w n (compare_values_ e o f) m s = compared_does (worth ns e m s) o (worth ns f m s) s
    act r k w n (among_ st gs) m s =
        after
        (if w then Signals true s
        else after (pay_first (search call (record { number = k; mode = r; groups = gs })) m s) (starter_does r (suc k) st m) (Signals false))
        (λ t. option_map_or (λ g. group_does r (number_after_starter st (suc k)) gs g m t) (slice_index_or t.choices k None) (Signals false t))
        (Signals false)

    -- runs the rows in order, up to the first that signals f
    pub rows_do : Mode → ℕ → Bool → Option Among → trees.Rows → Doing
    rows_do r k w n no_rows m s = Signals true s
    rows_do r k w n (row c os rs) m s =
        after
        (pay_first (others_do r (number_after c k) (waits c w) (first_rows r rs (number_after_others os (number_after c k)) n) os
        (act r k w (first_others r os (number_after c k) (first_rows r rs (number_after_others os (number_after c k)) n)) c)) m s)
        (rows_do r (number_after_others os (number_after c k)) (waits_others os (waits c w)) n rs m) (Signals false)

    -- joins commands from the left: d is what the commands so far do
    pub others_do : Mode → ℕ → Bool → Option Among → trees.Others → Doing → Doing
    others_do r k w n no_others d m s = d m s
    others_do r k w n (joined j c os) d m s =
        others_do r (number_after c k) (waits c w) n os
        (joined_does j (pay_first d) (pay_first (act r k w (first_others r os (number_after c k) n) c))) m s

    pub starter_does : Mode → ℕ → trees.Starter → Doing
    starter_does r k no_starter m s = Signals true s
    starter_does r k (starter rs) m s = pay_first (rows_do r k false None rs) m s

    -- the command of group number g; t if that group has none
    pub group_does : Mode → ℕ → trees.Groups → ℕ → Doing
    group_does r k (bare es) g m s = Signals true s
    group_does r k (group e es rs gs) zero m s = pay_first (rows_do r k false None rs) m s
    group_does r k (group e es rs gs) (suc g) m s = group_does r (number_after_rows rs k) gs g m s

  -- A call touches the routine and begins with nothing chosen. When it returns, the caller's choices are restored.
  abbrev pub body_does : List ℕ → Option Body → Doing
  body_does n None m s = Signals false s
  body_does n (Some b) m s =
      at_end (back_in s.routine s.choices)
      (pay_first (others_do b.mode (number_after b.first 0) (waits b.first false) None b.others
      (act b.mode 0 false (first_others b.mode b.others (number_after b.first 0) None) b.first))
      m (enter (place_of (ns kinds.Routines) n) (number_after_others b.others (number_after b.first 0)) s))

-- ---- runs

-- what a call does if at most this many levels of calls are left
abbrev pub calls : DeclaredNames → (List ℕ → ℕ → Bool) → (List ℕ → Option Body) → ℕ → List ℕ → Doing
calls ns class bodies zero n m s = Stops Depth s
calls ns class bodies (suc l) n m s = body_does ns class (calls ns class bodies l) n (bodies n) m s

-- How a run of a script on a word ends. The external's body runs forwards, on the first level.
unfoldable pub ending : Source → List ℕ → ℕ → Ending
ending script word limit =
    let items = in_order script.items in
    calls (known_in items) (char_class_of (classes_after items [])) (body_named items) max_levels script.external Forward
    (start (known_in items) word limit)

-- the same run, with its events recorded
unfoldable pub ending_with_events : Source → List ℕ → ℕ → Ending
ending_with_events script word limit =
    let items = in_order script.items in
    calls (known_in items) (char_class_of (classes_after items [])) (body_named items) max_levels script.external Forward
    (record (start (known_in items) word limit) { events = Some [] })
