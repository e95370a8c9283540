-- What a run touches, by name.
use Rattle.std.specs.Prelude.{ℕ, suc, Bool, false, ◌&&◌, List, [], map, nat_eq, slice_index_or, string_bytes}
use Rattle.std.specs.List.{list_any}
use Rattle.std.specs.Str.{bytes_eq}
use Rattle.std.specs.declared.cmp.Ordering.{Ordering}
use Rattle.std.specs.declared.cmp.Ordering.TheVariants.{Less, Greater}
use Rattle.std.specs.Ordering.{nat_cmp, ordering_then}
use Rattle.std.specs.Cmp.Lexicographic.{slice_cmp}
use Rattle.std.specs.BTreeSet.{BTreeSet, insert_key}
use Rattle.sbl_ast.specs.Folds.{foldr}
use Rattle.sbl_ast.specs.NamedParts.{Part', Routine, Among, Grouping}
use Rattle.sbl_ast.specs.Order.{in_order}
use Rattle.sbl_ast.specs.declared.tree.DeclarationKind.TheVariants as kinds
use Rattle.sbl_semantics.specs.declared.item.Item.{Item}
use Rattle.sbl_semantics.specs.declared.item.Item.TheVariants as code
use Rattle.sbl_semantics.specs.declared.touch.Touch.{Touch}
use Rattle.sbl_semantics.specs.declared.touch.Touch.TheVariants.{Entered, Searched, Tested}
use Rattle.sbl_semantics.specs.Outcome.{touches_of}
use Rattle.sbl_semantics.specs.Items.{known_in}
use Rattle.sbl_ast.specs.Source.{Source}

-- the item that the code's value represents
abbrev pub item_of : Item → Part'
item_of (code.Routine name) = Routine (string_bytes name)
item_of (code.Among name k) = Among (string_bytes name) k
item_of (code.Grouping name) = Grouping (string_bytes name)

abbrev pub same_item : Part' → Part' → Bool
same_item (Routine m) (Routine n) = bytes_eq m n
same_item (Among m k) (Among n l) = bytes_eq m n && nat_eq k l
same_item (Grouping m) (Grouping n) = bytes_eq m n
same_item x y = false

-- ---- what a run touches

-- the names of the routines and the groupings of a script, each in the order of their definitions
pub record Names' : Type 0 where
  pub routines : List (List ℕ)
  pub groupings : List (List ℕ)

abbrev pub names_of : Source → Names'
names_of script = record { routines = known_in (in_order script.items) kinds.Routines; groupings = known_in (in_order script.items) kinds.Groupings }

-- the item of a touch, by name
abbrev pub item_of_touch : Names' → Touch → Part'
item_of_touch names (Entered i) = Routine (slice_index_or names.routines i [])
item_of_touch names (Searched i k) = Among (slice_index_or names.routines i []) (suc k)
item_of_touch names (Tested g) = Grouping (slice_index_or names.groupings g [])

-- whether a run of a script on a word, with this limit, touches an item
unfoldable pub touches : Part' → Source → List ℕ → ℕ → Bool
touches x script word limit = list_any (same_item x) (map (item_of_touch (names_of script)) (touches_of script word limit))

-- ---- the items touched, each once: routines by name in code point order, then amongs by name and number, then
-- groupings by name

abbrev pub item_cmp : Part' → Part' → Ordering
item_cmp (Routine m) (Routine n) = slice_cmp nat_cmp m n
item_cmp (Routine m) y = Less
item_cmp (Among m k) (Routine n) = Greater
item_cmp (Among m k) (Among n l) = ordering_then (slice_cmp nat_cmp m n) (nat_cmp k l)
item_cmp (Among m k) (Grouping n) = Less
item_cmp (Grouping m) (Grouping n) = slice_cmp nat_cmp m n
item_cmp (Grouping m) y = Greater

abbrev pub items_of : Names' → List Touch → List Part'
items_of names ts = foldr (λ x xs. insert_key item_cmp xs x) [] (map (item_of_touch names) ts)

-- the items that a run of a script on a word, with this limit, touches
unfoldable pub touched_items : Source → List ℕ → ℕ → List Part'
touched_items script word limit = items_of (names_of script) (touches_of script word limit)

-- the items that the code's set holds
abbrev pub items_in : BTreeSet Item → List Part'
items_in set = map item_of set.keys
