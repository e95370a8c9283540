use Rattle.sbl_source_map.proofs.ListedFaults.{none_is_script, script_has_none}
use Rattle.sbl_source_map.proofs.laws.listed_unless_script.Goals as goal

pub returns-clause-none : goal.returns-clause-none
returns-clause-none c = none_is_script c.fault_is_first_of_all.ensures

pub returns-clause-script : goal.returns-clause-script
returns-clause-script c = script_has_none c.fault_is_first_of_all.ensures c.one_reading.ensures.either
