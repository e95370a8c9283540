use Rattle.sbl_batch.proofs.LawFacts.{same-without-repeats, stems-filtered}
use Rattle.sbl_batch.proofs.laws.stem_is_filter.Goals as goal

pub returns-clause-vocabulary : goal.returns-clause-vocabulary
returns-clause-vocabulary c = stems-filtered

pub returns-clause-same : goal.returns-clause-same
returns-clause-same c = same-without-repeats
