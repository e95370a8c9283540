use Rattle.std.proofs.Common.{◌∙◌, ap, map, string_bytes}
use Rattle.sbl_ast.specs.Order.{view_in_mode}
use Rattle.sbl_compiler.specs.NumberedNames.{Names, no_names}
use Rattle.sbl_compiler.specs.declared.program.Compilation.{Compilation}
use Rattle.sbl_compiler.proofs.Loops.{ok_equal}
use Rattle.sbl_compiler.proofs.SoundItems.{groupings_are, routines_are}
use Rattle.sbl_compiler.proofs.program.compile_in_order.Goals as goal

pub returns-in-Ok-clause-routines : goal.returns-in-Ok-clause-routines
returns-in-Ok-clause-routines c =
    ok_equal c.compile_named.result (λ (n : Compilation). map string_bytes n.routines.items) _ _ c.compile_named.ensures.routines
    (ap (λ (ns : Names). ns.routines) c.in_ok-names.ensures ∙ routines_are (map view_in_mode c.args.items.now) no_names)

pub returns-in-Ok-clause-groupings : goal.returns-in-Ok-clause-groupings
returns-in-Ok-clause-groupings c =
    ok_equal c.compile_named.result (λ (n : Compilation). map string_bytes n.groupings.items) _ _ c.compile_named.ensures.groupings
    (ap (λ (ns : Names). ns.groupings) c.in_ok-names.ensures ∙ groupings_are (map view_in_mode c.args.items.now) no_names)
