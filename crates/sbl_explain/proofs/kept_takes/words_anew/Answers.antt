use Rattle.std.proofs.Common.{refl}
use Rattle.sbl_bench.specs.KeptRuns.{setting_of}
use Rattle.sbl_explain.proofs.kept_takes.words_anew.Goals as goal

pub returns : goal.returns
returns c = c.words_with_takes.ensures (setting_of c.args.bench.now) (λ t. refl) (refl, λ w there out t. refl)
