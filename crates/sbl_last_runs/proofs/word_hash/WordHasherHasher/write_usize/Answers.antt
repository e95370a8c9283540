use Rattle.std.proofs.Common.{◌∙◌, ap, sym}
use Rattle.std.proofs.lemmas.Nat.{from_le_bytes-to_le_bytes_8}
use Rattle.std.specs.Hash.{le_bytes}
use Rattle.sbl_last_runs.specs.WordHash.{with_number, write}
use Rattle.sbl_last_runs.proofs.word_hash.WordHasherHasher.write_usize.Goals as goal

pub returns : goal.returns
unfolding write le_bytes
returns c = c.take.ensures ∙ ap (with_number c.args.self.now) (sym (from_le_bytes-to_le_bytes_8 c.args.i c.ranges.i.fits))
