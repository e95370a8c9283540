use Rattle.std.proofs.Common.{◌∙◌, length, ap}
use Rattle.std.specs.Prelude.{unwrap_or}
use Rattle.sbl_text.proofs.Numbers.{run_split}
use Rattle.sbl_text.proofs.codes.split_run.Goals as goal

pub returns-clause-number : goal.returns-clause-number
returns-clause-number c =
    run_split c.args.chars.now c.unwrap_or-end.result c.split_at.result.0.now c.split_at.result.1.now
    (c.unwrap_or-end.ensures ∙ ap (λ o. unwrap_or o (length c.args.chars.now)) c.first_white.ensures) c.split_at.ensures.front c.split_at.ensures.back c.split_at.ensures.front_len
