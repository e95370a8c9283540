-- A comparison for which there are no benches writes nothing.
use Rattle.std.proofs.Common.{ℕ, List, Option, Err}
use Rattle.std.proofs.KnownBytes.{Appends-nil}
use Rattle.sbl_batch.specs.Compare.{Compares, LacksPair}
use Rattle.sbl_batch.specs.declared.bench_pair.CompareFault.{CompareFault}
use Rattle.sbl_batch.specs.declared.bench_pair.CompareFault.TheVariants.{Old, New, Words, Rows}
use Rattle.sbl_batch.specs.declared.bench_pair.CompareInput.{CompareInput}

pub compares-lacking : (input : CompareInput) (f : CompareFault) (held : Option (List ℕ)) → LacksPair input f → Compares input held held (Err f)
compares-lacking input (Old f) held lacks = (lacks, Appends-nil held)
compares-lacking input (New f) held lacks = (lacks, Appends-nil held)
compares-lacking input (Words f) held lacks = (lacks, Appends-nil held)
compares-lacking input (Rows f) held lacks = absurd lacks
