use Rattle.std.proofs.Common.{List, map, ap, ◌∙◌, ℕ, string_bytes}
use Rattle.sbl_ast.specs.Order.{in_order}
use Rattle.sbl_ast.specs.Tree.{Item}
use Rattle.sbl_semantics.specs.TouchedItems.{Names'}
use Rattle.sbl_ast.specs.declared.tree.DeclarationKind.TheVariants as kinds
use Rattle.sbl_semantics.specs.Items.{known_in}
use Rattle.sbl_program.specs.AmongStrings.{Listing}
use Rattle.sbl_compiler.specs.NumberedItems.{numbered_items}
use Rattle.sbl_machine.specs.MachineOf.{IsMachineOf}
use Rattle.sbl_program.specs.FoundView.{listing_found}
use Rattle.sbl_program.specs.ProgramOf.{program_of}
use Rattle.std.specs.Prelude.{slice_get}
use Rattle.sbl_program.specs.Listing.{listed_by}
use Rattle.sbl_run_state.proofs.NumberingTables.{same_tables}
use Rattle.sbl_ast.specs.View.{view_items}
use Rattle.sbl_machine.proofs.machine.Machine.new.Goals as goal

abbrev names_in : List Item → Names'
names_in items = record { routines = known_in (in_order items) kinds.Routines; groupings = known_in (in_order items) kinds.Groupings }

pub returns : goal.returns
unfolding IsMachineOf
returns g c =
    let made = c.in_ok-program.field-0 in
    let tables = c.in_ok-tables.ensures ∙ ap (map listing_found) c.deref.ensures.value in
    let items = view_items c.args.script.now.items in (
      ap (λ x. program_of (λ k. listed_by _ g.S.AmongSearch.entries g.S.AmongSearch.mode (slice_get c.in_ok-tables.tables.items k)) x) c.in_ok-code.ensures
          ∙ ap (λ (T : ℕ → Listing). program_of T made.program) (same_tables _ g.S.AmongSearch.entries g.S.AmongSearch.mode c.in_ok-tables.tables.items made.amongs.items tables)
          ∙ c.in_ok-program.ensures.program
          ∙ ap (λ is. numbered_items (view_items is) c.external.result.now) c.items.ensures
          ∙ ap (numbered_items items) c.external.ensures,
      ap (λ (rs : List (List ℕ)). record { routines = rs; groupings = map string_bytes made.groupings.items }) c.in_ok-program.ensures.routines
          ∙ ap (λ (gs : List (List ℕ)). record { routines = known_in (in_order (view_items c.items.result.now)) kinds.Routines; groupings = gs }) c.in_ok-program.ensures.groupings
          ∙ ap (λ is. names_in (view_items is)) c.items.ensures,
    )
