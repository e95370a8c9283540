-- While two benches are opened.
use Rattle.std.specs.Prelude.{◌≡◌, ℕ, List, None, Result, Ok, Err}
use Rattle.sbl_ast.specs.Source.{Source}
use Rattle.sbl_batch.specs.Compare.{LacksPair, HasWordsFault}
use Rattle.sbl_batch.specs.declared.bench_pair.BenchPair.{BenchPair}
use Rattle.sbl_batch.specs.declared.bench_pair.CompareFault.{CompareFault}
use Rattle.sbl_batch.specs.declared.bench_pair.CompareInput.{CompareInput}
use Rattle.sbl_batch.specs.declared.bench_pair.ScriptPair.{ScriptPair}
use Rattle.sbl_bench.specs.Contents.{opening_contents}
use Rattle.sbl_bench.specs.KeptRuns.{KeptRuns, contents_of}
use Rattle.sbl_input.specs.FileWords.{file_fault, file_words}
use Rattle.sbl_input.specs.declared.faults.LoadFault.{LoadFault}
use Rattle.sbl_script.specs.ParsedScript.{source_of}
use Rattle.sbl_script.specs.Reading.{IsScriptOf}

-- both scripts are parsed; or the fault of the first that has one
abbrev pub ParsesPair : CompareInput → Result ScriptPair CompareFault → Type 0
ParsesPair input (Ok scripts) =
    IsScriptOf input.old.now input.external.now (source_of scripts.old) × IsScriptOf input.new.now input.external.now (source_of scripts.new)
ParsesPair input (Err f) = LacksPair input f

-- the bench of a script over the words of a file; or why there is none
abbrev pub OpensOver : Source → List ℕ → Result KeptRuns LoadFault → Type 0
OpensOver script bytes (Ok bench) = (file_fault bytes ≡ None) × (contents_of bench ≡ opening_contents script (file_words bytes))
OpensOver script bytes (Err f) = HasWordsFault bytes f

-- the benches of two scripts over the words of a file; or why there are none
abbrev pub OpensBoth : ScriptPair → List ℕ → Result BenchPair LoadFault → Type 0
OpensBoth scripts bytes (Ok pair) =
    OpensOver (source_of scripts.old) bytes (Ok pair.old) × OpensOver (source_of scripts.new) bytes (Ok pair.new)
OpensBoth scripts bytes (Err f) = HasWordsFault bytes f
