use Rattle.std.proofs.Common.{◌≡◌, ◌∙◌, List, ap, map, rules, string_bytes}
use Rattle.std.proofs.lemmas.Result.{IfOk-weaker}
use Rattle.sbl_ast.specs.Order.{ItemInMode, in_order, view_in_mode}
use Rattle.sbl_ast.specs.View.{view_items}
use Rattle.sbl_ast.specs.declared.tree.DeclarationKind.TheVariants as kinds
use Rattle.sbl_program.specs.FoundView.{strings_at}
use Rattle.sbl_program.specs.ProgramOf.{program_of}
use Rattle.sbl_semantics.specs.Items.{known_in}
use Rattle.sbl_compiler.specs.NumberedItems.{numbered_items, plan_in}
use Rattle.sbl_compiler.specs.declared.program.Compilation.{Compilation}
use Rattle.sbl_compiler.proofs.Loops.{ok_equal}
use Rattle.sbl_compiler.proofs.program.compile_items.Goals as goal

pub returns-clause-program : goal.returns-clause-program
unfolding numbered_items
returns-clause-program c =
    let external = c.args.external.now in
    let ordered : map view_in_mode c.deref.result.now ≡ in_order (view_items c.args.items.now) = search rules in
    IfOk-weaker c.compile_in_order-compilation.result
    (λ (n : Compilation). program_of (strings_at n.amongs.items) n.program ≡ plan_in (map view_in_mode c.deref.result.now) external)
    (λ (n : Compilation). program_of (strings_at n.amongs.items) n.program ≡ plan_in (in_order (view_items c.args.items.now)) external)
    (λ n p. p ∙ ap (λ (xs : List ItemInMode). plan_in xs external) ordered)
    c.compile_in_order-compilation.ensures.program

pub returns-clause-routines : goal.returns-clause-routines
returns-clause-routines c =
    let ordered : map view_in_mode c.deref.result.now ≡ in_order (view_items c.args.items.now) = search rules in
    ok_equal c.compile_in_order-compilation.result (λ (n : Compilation). map string_bytes n.routines.items) _ _ c.compile_in_order-compilation.ensures.routines
    (ap (λ (xs : List ItemInMode). known_in xs kinds.Routines) ordered)

pub returns-clause-groupings : goal.returns-clause-groupings
returns-clause-groupings c =
    let ordered : map view_in_mode c.deref.result.now ≡ in_order (view_items c.args.items.now) = search rules in
    ok_equal c.compile_in_order-compilation.result (λ (n : Compilation). map string_bytes n.groupings.items) _ _ c.compile_in_order-compilation.ensures.groupings
    (ap (λ (xs : List ItemInMode). known_in xs kinds.Groupings) ordered)
