use Rattle.std.proofs.Common.{◌≡◌, List, Result, Ok, Err, IfOk, map, ap, subst, sym}
use Rattle.sbl_semantics.specs.declared.touch.Touch.{Touch}
use Rattle.sbl_script.specs.ParsedScript.{source_of}
use Rattle.sbl_ast.specs.Order.{in_order}
use Rattle.sbl_ast.specs.View.{view_items}
use Rattle.sbl_machine.specs.MachineOf.{IsMachineOf}
use Rattle.sbl_machine.specs.Marking.{marks_of}
use Rattle.sbl_machine.specs.Marks.{AreMarksOf}
use Rattle.sbl_semantics.specs.TouchedItems.{Names', item_of, names_of}
use Rattle.sbl_machine.proofs.MarksAre.{are_marks}
use Rattle.sbl_machine.proofs.machine.Machine.affected_touches.Goals as goal

on_ok : {E : Type 0} (r : Result (List Touch) E) (marks : List Touch) (P : List Touch → Type 0) → IfOk r (λ m. m ≡ marks) → P marks → IfOk r P
on_ok (Ok m) marks P is p = subst P (sym is) p
on_ok (Err e) marks P is p = tt

pub returns : goal.returns
unfolding IsMachineOf
returns g c made there =
    let s = source_of c.args.script.now in
    let xs = map item_of c.args.items.now in
    let names : c.args.self.now.names ≡ names_of s = made.1 in
    let items = ap (λ is. in_order (view_items is)) c.items.ensures in
    on_ok c.marks_of.result (marks_of (names_of s) (in_order s.items) xs) (AreMarksOf s xs)
    (subst (λ (ns : Names'). IfOk c.marks_of.result (λ m. m ≡ marks_of ns (in_order s.items) xs)) names (subst (λ is. IfOk c.marks_of.result (λ m. m ≡ marks_of c.args.self.now.names is xs)) items c.marks_of.ensures))
    (are_marks s c.is_spelled.ensures.spelled xs there)
