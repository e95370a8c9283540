-- The program of a routine, and the class of a grouping, by what the items say.
use Rattle.std.proofs.Common.{◌≡◌, ℕ, List, [], option_map, refl, sym, ap, ◌∙◌}
use Rattle.std.specs.Prelude.{slice_get}
use Rattle.sbl_compiler.specs.Ahead.{routines_in}
use Rattle.sbl_semantics.specs.Items.{known_in, char_class_of, classes_after, body_named}
use Rattle.sbl_compiler.specs.NumberedItems.{numbered_items, plan_in, plan_with}
use Rattle.sbl_compiler.specs.NumberedNames.{Names, names_after, no_names, number_of}
use Rattle.sbl_compiler.specs.NumberedClasses.{numbered_classes}
use Rattle.sbl_program.specs.Program as programs
use Rattle.sbl_program.specs.Terms.{class_at}
use Rattle.sbl_compiler.specs.Laws.{RoutineIsItsOwn, ClassesAreTheirTerms, names_in}
use Rattle.sbl_compiler.proofs.OwnMade.{own_is_made}
use Rattle.sbl_compiler.proofs.SoundItems.{placed_by, groupings_are, routines_are, classes_are, as_made, body_at}
use Rattle.sbl_ast.specs.Order.{ItemInMode, in_order}
use Rattle.sbl_ast.specs.declared.tree.DeclarationKind.TheVariants as kinds
use Rattle.sbl_ast.specs.Tree.{Item}

module _ (items : List ItemInMode) (external : List ℕ) where
  abbrev ns : Names
  ns = names_after items no_names

  abbrev program : programs.Program
  program = plan_with ns items external

  pub class_same : (n : List ℕ) (c : ℕ) → class_at (numbered_classes ns items []) (number_of ns.groupings n) c ≡ char_class_of (classes_after items []) n c
  class_same n c = classes_are ns items (groupings_are items no_names) n c

  pub routine_same : (n : List ℕ) → slice_get program.routines (number_of ns.routines n) ≡ option_map (as_made ns) (body_named items n)
  routine_same n =
      ap (λ rs. slice_get rs (number_of ns.routines n)) (own_is_made ns items)
      ∙ ap (λ i. slice_get (routines_in ns items) i) (placed_by ns.routines (known_in items kinds.Routines) n (routines_are items no_names))
      ∙ body_at ns items n

program_is : (items : List Item) (external : List ℕ) → numbered_items items external ≡ plan_in (in_order items) external
unfolding numbered_items
program_is items external = refl

pub routine_is_its_own : RoutineIsItsOwn
routine_is_its_own s s' external external' n e h =
    let i = number_of (names_in s).routines n in
    let i' = number_of (names_in s').routines n in
    ap (λ (p : programs.Program). slice_get p.routines i) (program_is s external)
    ∙ routine_same (in_order s) external n
    ∙ ap (λ ns. option_map (as_made ns) (body_named (in_order s) n)) e
    ∙ ap (option_map (as_made (names_in s'))) h
    ∙ sym (ap (λ (p : programs.Program). slice_get p.routines i') (program_is s' external') ∙ routine_same (in_order s') external' n)

pub classes_are_their_terms : ClassesAreTheirTerms
classes_are_their_terms items external n c =
    ap (λ (p : programs.Program). class_at p.groupings (number_of (names_in items).groupings n) c) (program_is items external)
    ∙ class_same (in_order items) external n c
