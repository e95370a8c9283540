use Rattle.sbl_script.proofs.script.Script.with.Goals as goal

pub returns-in-Routine-clause-fault : goal.returns-in-Routine-clause-fault
returns-in-Routine-clause-fault c = rw c.in-Routine.is c.with_routine.ensures.fault

pub returns-in-Routine-clause-missing : goal.returns-in-Routine-clause-missing
returns-in-Routine-clause-missing c = rw c.in-Routine.is c.with_routine.ensures.missing

pub returns-in-Among-clause-fault : goal.returns-in-Among-clause-fault
returns-in-Among-clause-fault c = rw c.in-Among.is c.with_among.ensures.fault

pub returns-in-Among-clause-missing : goal.returns-in-Among-clause-missing
returns-in-Among-clause-missing c = rw c.in-Among.is c.with_among.ensures.missing

pub returns-in-Grouping-clause-fault : goal.returns-in-Grouping-clause-fault
returns-in-Grouping-clause-fault c = rw c.in-Grouping.is c.with_grouping.ensures.fault

pub returns-in-Grouping-clause-missing : goal.returns-in-Grouping-clause-missing
returns-in-Grouping-clause-missing c = rw c.in-Grouping.is c.with_grouping.ensures.missing
