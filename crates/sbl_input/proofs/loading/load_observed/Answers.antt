use Rattle.std.proofs.Common.{◌∙◌, sym, rules}
use Rattle.sbl_input.proofs.loading.load_observed.Goals as goal

pub returns-in_err-script-clause-again : goal.returns-in_err-script-clause-again
returns-in_err-script-clause-again g c = λ fault is.
    let again = c.read_input.ensures.again fault is in
    (search (rules, again.0), again.1)

pub returns-in-Ok-clause-again : goal.returns-in-Ok-clause-again
returns-in-Ok-clause-again g c = λ fault is.
    let again = c.read_input.ensures.again fault is in
    let clash = sym c.in_ok-script.was ∙ again.0 in
    absurd (let no : ⊥ = cc clash in no)

pub returns-in-Err-clause-again : goal.returns-in-Err-clause-again
returns-in-Err-clause-again g c = λ fault is.
    let again = c.read_input.ensures.again fault is in
    let clash = sym c.in_ok-script.was ∙ again.0 in
    absurd (let no : ⊥ = cc clash in no)
