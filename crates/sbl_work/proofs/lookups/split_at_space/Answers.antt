use Rattle.std.proofs.Common.{rules, ◌≡◌, ◌==◌, length}
use Rattle.std.specs.List.{position_or_len}
use Rattle.sbl_work.proofs.LookupFacts.{no_space}
use Rattle.sbl_work.proofs.lookups.split_at_space.Goals as goal

pub returns-in-None-clause-rest : goal.returns-in-None-clause-rest
returns-in-None-clause-rest c =
    let past : position_or_len (λ b. b == 32) c.args.text.now ≡ length c.args.text.now = search rules in
    no_space c.args.text.now past
