use Rattle.std.proofs.Common.{[], map, take}
use Rattle.sbl_ast.specs.Source.{Source}
use Rattle.sbl_machine.specs.MachineOf.{IsLinkedMachineOf}
use Rattle.sbl_io.specs.Records.{records_text}
use Rattle.sbl_io.specs.RecordsWritten.{HasWritten}
use Rattle.sbl_input.proofs.VocabularyFacts.{fields_in}
use Rattle.sbl_input.proofs.vocabulary_rows.write_rows.Given as goal

-- the rows of the words before the index are written
abbrev pub invariant-loop-word : goal.invariant-loop-word
invariant-loop-word l =
    (s : Source) → IsLinkedMachineOf l.machine s → HasWritten l.fn.records.writer [] → HasWritten l.records.writer (records_text (map (fields_in s) (take l.word-index l.words)))
