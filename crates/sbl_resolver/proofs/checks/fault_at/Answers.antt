use Rattle.std.proofs.Common.{ap, ◌∙◌, Some, None, if◌then◌else◌}
use Rattle.sbl_text.specs.declared.fault.ScriptFault.TheVariants as fault
use Rattle.sbl_resolver.proofs.checks.fault_at.Goals as goal

pub returns-in-String : goal.returns-in-String
returns-in-String c all before sites met =
    rw c.in-String.is (c.fault_if-in-String.ensures
    ∙ ap (λ b. if b then Some (fault.RepeatedString c.args.occurrence.now.site.item) else None) (c.contains.ensures ∙ met.strings c.args.occurrence.now.site.item c.in-String.among c.in-String.text.now))
