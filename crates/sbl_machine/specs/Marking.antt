-- How the marks of items are collected, name by name.
use Rattle.std.specs.Prelude.{ℕ, zero, suc, Bool, List, [], ◌∷◌, ◌++◌, if◌then◌else◌}
use Rattle.sbl_ast.specs.Order.{ItemInMode}
use Rattle.sbl_compiler.specs.NumberedNames.{is_one_of}
use Rattle.sbl_semantics.specs.declared.touch.Touch.{Touch}
use Rattle.sbl_semantics.specs.declared.touch.Touch.TheVariants.{Entered, Searched, Tested}
use Rattle.sbl_semantics.specs.Touches.{with_touch}
use Rattle.sbl_machine.specs.AmongList.{with_number}
use Rattle.sbl_machine.specs.declared.marks.ItemKind.{ItemKind}
use Rattle.sbl_machine.specs.declared.marks.ItemKind.TheVariants as kinds
use Rattle.sbl_machine.specs.inside.BuiltFromParts.{built_after}
use Rattle.sbl_semantics.specs.TouchedItems.{Names'}
use Rattle.sbl_ast.specs.NamedParts.{Part', Routine, Among, Grouping}

-- ---- the names of the routines and of the groupings among some items, and the amongs of each routine

-- the names, with that of the item if it is a routine
abbrev pub and_routine : Part' → List (List ℕ) → List (List ℕ)
and_routine (Routine n) ns = ns ++ n ∷ []
and_routine (Among n k) ns = ns
and_routine (Grouping n) ns = ns

abbrev pub routines_after : List Part' → List (List ℕ) → List (List ℕ)
routines_after [] ns = ns
routines_after (x ∷ xs) ns = routines_after xs (and_routine x ns)

-- the names, with that of the item if it is a grouping
abbrev pub and_grouping : Part' → List (List ℕ) → List (List ℕ)
and_grouping (Routine n) ns = ns
and_grouping (Among n k) ns = ns
and_grouping (Grouping n) ns = ns ++ n ∷ []

abbrev pub groupings_after : List Part' → List (List ℕ) → List (List ℕ)
groupings_after [] ns = ns
groupings_after (x ∷ xs) ns = groupings_after xs (and_grouping x ns)

-- the numbers ks, with that of the item if it is an among of routine n; numbers are counted from 0
abbrev pub and_among : List ℕ → Part' → List ℕ → List ℕ
and_among n (Routine m) ks = ks
and_among n (Among m zero) ks = ks
and_among n (Among m (suc k)) ks = with_number m k n ks
and_among n (Grouping m) ks = ks

abbrev pub amongs_after : List ℕ → List Part' → List ℕ → List ℕ
amongs_after n [] ks = ks
amongs_after n (x ∷ xs) ks = amongs_after n xs (and_among n x ks)

-- the numbers of the amongs of each routine among some items
abbrev pub amongs_in : List Part' → List ℕ → List ℕ
amongs_in xs n = amongs_after n xs []

-- ---- touches

-- the touch of the routine or the grouping with a number
abbrev pub touch_of : ItemKind → ℕ → Touch
touch_of kinds.Routine = Entered
touch_of kinds.Grouping = Tested

-- the touches ts, with one more for each name that passes the test; the first name has number i
abbrev pub with_names : (ℕ → Touch) → (List ℕ → Bool) → ℕ → List (List ℕ) → List Touch → List Touch
with_names touch test i [] ts = ts
with_names touch test i (n ∷ ns) ts = with_names touch test (suc i) ns (if test n then with_touch (touch i) ts else ts)

-- the touches ts, with those that search these amongs of routine i
abbrev pub with_searches : ℕ → List ℕ → List Touch → List Touch
with_searches i [] ts = ts
with_searches i (k ∷ ks) ts = with_searches i ks (with_touch (Searched i k) ts)

-- the touches ts, with those that search the amongs of each routine that have these numbers; the first routine has number i
abbrev pub searches : (List ℕ → List ℕ) → ℕ → List (List ℕ) → List Touch → List Touch
searches numbers i [] ts = ts
searches numbers i (n ∷ ns) ts = searches numbers (suc i) ns (with_searches i (numbers n) ts)

-- the touches ts, with those of these amongs of each routine, of these routines and of these groupings
abbrev pub with_marks : Names' → (List ℕ → List ℕ) → List (List ℕ) → List (List ℕ) → List Touch → List Touch
with_marks names amongs routines groupings ts =
    with_names (touch_of kinds.Grouping) (is_one_of groupings) 0 names.groupings
    (with_names (touch_of kinds.Routine) (is_one_of routines) 0 names.routines (searches amongs 0 names.routines ts))

-- the touches of the amongs, the routines, and the groupings with those that are built from them
abbrev pub marks_of : Names' → List ItemInMode → List Part' → List Touch
marks_of names items xs = with_marks names (amongs_in xs) (routines_after xs []) (built_after items (groupings_after xs [])) []
