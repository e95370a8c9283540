use Rattle.std.proofs.Common.{refl}
use Rattle.std.proofs.KnownBytes.{Appends-nil}
use Rattle.sbl_bench.specs.KeptRuns.{contents_of}
use Rattle.snowbench.proofs.file_runs.stem_files.Goals as goal

pub returns-in_default-clause-rows : goal.returns-in_default-clause-rows
returns-in_default-clause-rows g c = (refl, contents_of c.in-Ok.bench, c.in-Ok.ensures, Appends-nil (g.W.Sink.held c.args.writer.now))
