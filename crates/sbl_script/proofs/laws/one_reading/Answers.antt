use Rattle.sbl_text.specs.Directives.{start}
use Rattle.sbl_ast.specs.Texts.{script}
use Rattle.sbl_script.proofs.OneReading as one
use Rattle.sbl_script.proofs.laws.one_reading.Goals as goal

pub returns-clause-script : goal.returns-clause-script
returns-clause-script c = one.script_is_one (record { places = c.tokens_are_one.ensures.places; first = c.first_fault_is_one.ensures.fault; either = c.first_fault_is_one.ensures.either; tree = c.one_tree.ensures.text; fault = c.one_fault.ensures.one; none = c.one_fault.ensures.none })

pub returns-clause-fault : goal.returns-clause-fault
returns-clause-fault c bytes external f g = one.fault_is_one (record { places = c.tokens_are_one.ensures.places; first = c.first_fault_is_one.ensures.fault; either = c.first_fault_is_one.ensures.either; tree = c.one_tree.ensures.text; fault = c.one_fault.ensures.one; none = c.one_fault.ensures.none }) script start (λ items. items) external bytes f g

pub returns-clause-either : goal.returns-clause-either
returns-clause-either c = one.script_or_fault (record { places = c.tokens_are_one.ensures.places; first = c.first_fault_is_one.ensures.fault; either = c.first_fault_is_one.ensures.either; tree = c.one_tree.ensures.text; fault = c.one_fault.ensures.one; none = c.one_fault.ensures.none })
