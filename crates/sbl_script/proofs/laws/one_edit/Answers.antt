use Rattle.sbl_script.proofs.Agreement.{edited_in, fault_in}
use Rattle.sbl_script.proofs.OneEdit as one
use Rattle.sbl_script.proofs.laws.one_edit.Goals as goal

pub returns-clause-script : goal.returns-clause-script
returns-clause-script c = λ s e text t u a b. one.edit_is_one (record { places = c.tokens_are_one.ensures.places; first = c.first_fault_is_one.ensures.fault; either = c.first_fault_is_one.ensures.either; tree = c.one_tree.ensures.text; fault = c.one_fault.ensures.one; none = c.one_fault.ensures.none }) s e text t u (edited_in s e text t a) (edited_in s e text u b)

pub returns-clause-fault : goal.returns-clause-fault
returns-clause-fault c = λ s e text f g a b. one.edit_fault_is_one (record { places = c.tokens_are_one.ensures.places; first = c.first_fault_is_one.ensures.fault; either = c.first_fault_is_one.ensures.either; tree = c.one_tree.ensures.text; fault = c.one_fault.ensures.one; none = c.one_fault.ensures.none }) s e text f g (fault_in s e text f a) (fault_in s e text g b)

pub returns-clause-either : goal.returns-clause-either
returns-clause-either c = λ s e text t f a b. one.edit_or_fault (record { places = c.tokens_are_one.ensures.places; first = c.first_fault_is_one.ensures.fault; either = c.first_fault_is_one.ensures.either; tree = c.one_tree.ensures.text; fault = c.one_fault.ensures.one; none = c.one_fault.ensures.none }) s e text t f (edited_in s e text t a) (fault_in s e text f b)
