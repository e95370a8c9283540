use Rattle.std.proofs.Common.{length, ne_eqb}
use Rattle.sbl_last_runs.specs.WordHash.{write}
use Rattle.sbl_last_runs.proofs.word_hash.WordHasherHasher.write.Goals as goal

pub returns-then-bytes-eq4 : goal.returns-then-bytes-eq4
unfolding write
returns-then-bytes-eq4 c = rw (c.take.ensures, c.from_le_bytes.ensures, c.if-bytes-eq4.true)

pub returns-then-bytes-eq8 : goal.returns-then-bytes-eq8
unfolding write
returns-then-bytes-eq8 c = rw (c.take-then-bytes-eq8.ensures, c.from_le_bytes-then-bytes-eq8.ensures, c.if-bytes-eq8.true)

pub returns-else-bytes-eq8 : goal.returns-else-bytes-eq8
unfolding write
returns-else-bytes-eq8 c = rw (c.take_bytes.ensures, ne_eqb (length c.args.bytes.now) 4 c.if-bytes-eq4.false, ne_eqb (length c.args.bytes.now) 8 c.if-bytes-eq8.false)
