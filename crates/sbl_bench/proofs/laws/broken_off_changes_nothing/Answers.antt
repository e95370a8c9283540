use Rattle.sbl_bench.proofs.BreakLaws.{only_good, plain_end, shows}
use Rattle.sbl_bench.proofs.OneVerdict.{facts_of}
use Rattle.sbl_bench.proofs.laws.broken_off_changes_nothing.Goals as goal

pub returns : goal.returns
returns c = record {
  plain = plain_end;
  good = only_good (facts_of c.one_edit.ensures.script c.one_edit.ensures.fault c.one_edit.ensures.either c.one_reading.ensures.script c.one_reading.ensures.fault c.one_reading.ensures.either);
  shows = shows;
}
