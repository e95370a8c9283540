use Rattle.std.proofs.Common.{◌≡◌, ◌≤◌, ◌+◌, length}
use Rattle.sbl_machine.specs.MachineOf.{IsLinkedMachineOf}
use Rattle.sbl_script.specs.ParsedScript.{source_of}
use Rattle.sbl_batch.specs.Checking.{Progress}
use Rattle.sbl_io.specs.Devices.{WritesInTime}
use Rattle.sbl_batch.proofs.checking.check_observed.Given as goal

abbrev pub invariant-loop-word : goal.invariant-loop-word
invariant-loop-word g l = record {
  made : IsLinkedMachineOf l.machine (source_of l.script);
  compared : Progress (source_of l.script) l.lists.words.now l.lists.expected.now l.words_left l.expected_left (l.number + 1) l.differences (g.W.Sink.held l.fn.writer) (g.W.Sink.held l.writer);
  steady : (g.W.Sink.tally l.writer).failures ≡ (g.W.Sink.tally l.fn.writer).failures;
  writes : WritesInTime g.W.Sink.tally l.fn.writer l.writer;
  rested : (g.W.Sink.tally l.fn.writer).interruptions ≡ 0 → (g.W.Sink.tally l.writer).interruptions ≡ 0;
  numbered : l.number + length l.words_left ≤ length l.lists.words.now;
  few : l.differences ≤ l.number;
}

abbrev pub decreases-loop-word : goal.decreases-loop-word
decreases-loop-word g l = length l.words_left
