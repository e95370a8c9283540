use Rattle.std.proofs.Common.{arith}
use Rattle.std.proofs.lemmas.Str.{is_utf8-from_IsUtf8}
use Rattle.sbl_input.proofs.FileFacts.{line_fits, line_no_text, no_utf8}
use Rattle.sbl_input.proofs.file_words.text_line.Goals as goal

pub returns-in-Ok-clause-text : goal.returns-in-Ok-clause-text
returns-in-Ok-clause-text c = (
  c.in-Ok.ensures.cases.0,
  line_fits c.args.line.now (omega arith) (is_utf8-from_IsUtf8 c.args.line.now c.in-Ok.ensures.cases.1),
)

pub returns-in-Err-clause-fault : goal.returns-in-Err-clause-fault
returns-in-Err-clause-fault c = line_no_text c.args.line.now (omega arith) (no_utf8 c.args.line.now c.in-Err.ensures.cases.0)
