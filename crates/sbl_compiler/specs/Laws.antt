-- Laws of the compiler.
use Rattle.std.specs.Prelude.{◌≡◌, ℕ, false, List, [], Option, slice_get}
use Rattle.sbl_compiler.specs.Ahead.{routines_in}
use Rattle.sbl_semantics.specs.Items.{body_named, char_class_of, classes_after}
use Rattle.sbl_compiler.specs.NumberedItems.{numbered_items, routines_after}
use Rattle.sbl_compiler.specs.NumberedAmongs.{found_after}
use Rattle.sbl_compiler.specs.NumberedNames.{Names, names_after, no_names, number_of}
use Rattle.sbl_program.specs.Program.{Routine}
use Rattle.sbl_program.specs.Terms.{class_at}
use Rattle.sbl_ast.specs.Order.{ItemInMode, in_order}
use Rattle.sbl_ast.specs.Tree.{Item}

-- each routine is compiled by itself
abbrev pub OwnIsMade : Type 0
OwnIsMade =
    (ns : Names) (items : List ItemInMode) →
    routines_after ns items (record { coming = found_after ns items []; following = 0; waits = false }) [] ≡ routines_in ns items

abbrev pub names_in : List Item → Names
names_in items = names_after (in_order items) no_names

-- the program of the routine with this name, in the program of these items and an external
abbrev pub routine_at : List Item → List ℕ → List ℕ → Option Routine
routine_at items external n = slice_get (numbered_items items external).routines (number_of (names_in items).routines n)

-- If two scripts have the same names, and a routine has the same body in both, its program is the same in both,
-- whatever else they contain: an edit of a routine does not change the programs of the others.
abbrev pub RoutineIsItsOwn : Type 0
RoutineIsItsOwn =
    (items items' : List Item) (external external' n : List ℕ) → names_in items ≡ names_in items' →
    body_named (in_order items) n ≡ body_named (in_order items') n → routine_at items external n ≡ routine_at items' external' n

-- a character is in the class of a grouping exactly if its terms, added and removed from left to right, have it
abbrev pub ClassesAreTheirTerms : Type 0
ClassesAreTheirTerms =
    (items : List Item) (external n : List ℕ) (c : ℕ) →
    class_at (numbered_items items external).groupings (number_of (names_in items).groupings n) c
    ≡ char_class_of (classes_after (in_order items) []) n c
