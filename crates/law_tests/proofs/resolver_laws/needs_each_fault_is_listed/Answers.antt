use Rattle.law_tests.proofs.resolver_laws.needs_each_fault_is_listed.Goals as goal

pub returns : goal.returns
returns c = λ items external before f is. c.each_fault_is_listed.ensures items external before is.after is.occurrence f is.parts is.fault
