use Rattle.std.proofs.Common.{sym, ◌∙◌, inl, inr}
use Rattle.sbl_ast.specs.View.{view_items}
use Rattle.sbl_source_map.proofs.NoPlaces.{read_too, no_tree}
use Rattle.sbl_source_map.proofs.fault_places.tree_of.Goals as goal

pub returns-in-Ok : goal.returns-in-Ok
returns-in-Ok c = (sym c.first_left_out.ensures ∙ c.in_default.is, read_too c.args.tokens.now (view_items c.in-Ok.items.items) c.in-Ok.ensures.read)

pub returns-in_default-fault : goal.returns-in_default-fault
returns-in_default-fault c = elim c.in-Err.ensures.fault [
  | inl e ↦ absurd (c.in_default-fault.not-OutOfMemory e)
  | inr h ↦ λ items offered read. no_tree c.one_fault.ensures.none c.args.tokens.now c.args.end c.in-Err.fault h items read
]
