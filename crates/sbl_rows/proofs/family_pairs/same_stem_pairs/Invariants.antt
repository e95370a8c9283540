use Rattle.std.proofs.Common.{◌≡◌, ℕ, List, take}
use Rattle.std.specs.List.{count_by}
use Rattle.std.specs.Str.{bytes_eq}
use Rattle.sbl_rows.specs.Counting.{count_in}
use Rattle.sbl_rows.specs.Families.{pairs_in, same_stem}
use Rattle.sbl_rows.specs.Grouping.{view_pairs}
use Rattle.sbl_rows.proofs.family_pairs.same_stem_pairs.Given as goal

-- the stems of the words so far, and the pairs of these words
abbrev pub invariant-loop-pair : goal.invariant-loop-pair
invariant-loop-pair l = record {
  counts : (q : List ℕ) → count_in l.counts q ≡ count_by (λ p. bytes_eq p.0 q) (view_pairs (take l.pair-index l.pairs));
  same : l.same ≡ pairs_in same_stem (view_pairs (take l.pair-index l.pairs));
}
