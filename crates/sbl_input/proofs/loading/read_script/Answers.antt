use Rattle.std.proofs.Common.{rules}
use Rattle.sbl_input.proofs.loading.read_script.Goals as goal

pub returns-in-Err-clause-again : goal.returns-in-Err-clause-again
returns-in-Err-clause-again g c = λ fault is.
    let again = c.read_block.ensures.again fault is in
    (search (rules, again.0), again.1)
