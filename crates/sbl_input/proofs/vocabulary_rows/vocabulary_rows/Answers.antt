use Rattle.std.proofs.Common.{List, ℕ, subst}
use Rattle.std.specs.declared.vec.Vec.{Vec}
use Rattle.std.specs.declared.alloc.Global.{Global}
use Rattle.sbl_script.specs.ParsedScript.{source_of}
use Rattle.sbl_io.specs.RecordsWritten.{HasWritten}
use Rattle.sbl_input.specs.VocabularyRows.{text_of_rows}
use Rattle.sbl_input.specs.WordLists.{texts_of}
use Rattle.sbl_input.proofs.vocabulary_rows.vocabulary_rows.Goals as goal

pub returns : goal.returns
returns c =
    let s = source_of c.args.script.now in
    let written = c.in_ok-written.ensures s c.in_ok-machine.ensures c.in_ok-records.ensures in
    let writes = λ (words : List (Vec ℕ Global)). HasWritten c.write_rows-written.new.records.writer (text_of_rows s (texts_of words)) in
    c.into_text.ensures _ (subst writes c.as_slice.ensures.keys written)
