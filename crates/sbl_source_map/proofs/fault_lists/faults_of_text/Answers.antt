use Rattle.std.proofs.Common.{inl, inr}
use Rattle.sbl_source_map.proofs.HeadFacts.{if_ok}
use Rattle.sbl_source_map.proofs.fault_lists.faults_of_text.Goals as goal

pub returns-in_default : goal.returns-in_default
returns-in_default c = elim c.in-Err.ensures.fault [
  | inl e ↦ absurd (c.in_default.not-OutOfMemory e)
  | inr h ↦ if_ok c.only_fault.result c.only_fault.ensures (λ faults are. are h c.args.external.now)
]
