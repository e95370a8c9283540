use Rattle.std.proofs.Common.{◌≡◌, ◌++◌, map}
use Rattle.sbl_rows.specs.Classes.{members_of, words_of}
use Rattle.sbl_rows.specs.Pairs.{plain}
use Rattle.sbl_rows.proofs.Ranging.{AreFrom}
use Rattle.sbl_rows.proofs.class.words_among.Given as goal

-- the words so far, and those of the pairs still to come
abbrev pub invariant-loop-pair : goal.invariant-loop-pair
invariant-loop-pair l = record {
  words : words_of l.words.items ++ members_of l.stem (map plain l.pair-iterator) ≡ members_of l.stem (map plain l.pairs.keys);
  from : AreFrom l.stem l.pair-iterator;
}
