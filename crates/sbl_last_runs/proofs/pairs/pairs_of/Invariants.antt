use Rattle.std.specs.List.{IsDistinct}
use Rattle.std.specs.Map.{keys_of}
use Rattle.std.specs.Str.{bytes_eq}
use Rattle.sbl_last_runs.specs.Pairs.{Text}
use Rattle.sbl_last_runs.proofs.PairFacts.{ArePairedSoFar}
use Rattle.sbl_last_runs.proofs.pairs.pairs_of.Given as goal

abbrev pub invariant-loop-word : goal.invariant-loop-word
invariant-loop-word l = record {
  so_far : ArePairedSoFar l.traces.entries l.word-iterator l.pairs;
  distinct : IsDistinct (λ (x y : Text). bytes_eq x.items y.items) (keys_of l.word-iterator);
}
