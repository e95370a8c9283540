use Rattle.std.proofs.Common.{◌∙◌}
use Rattle.sbl_text.proofs.Texts.{rest_within, seam_before, prefix_bytes, same_chars, from_start}
use Rattle.sbl_text.proofs.prefix.prefix_before.Goals as goal

pub overflow_sub-text : goal.overflow_sub-text
overflow_sub-text c = rest_within c.args.text.now c.args.rest.now c.requires.0 c.utf8.text c.utf8.rest c.requires.1

pub range-requires-clause-end_boundary : goal.range-requires-clause-end_boundary
range-requires-clause-end_boundary c = seam_before c.args.text.now c.args.rest.now c.requires.0 c.utf8.text c.utf8.rest c.requires.1

pub returns-clause-characters : goal.returns-clause-characters
returns-clause-characters c = λ x is. same_chars c.range.result.now x c.range.utf8 (c.range.ensures.value ∙ from_start _ c.args.text.now ∙ prefix_bytes c.args.text.now c.args.rest.now x c.utf8.text c.utf8.rest is)

pub returns-clause-bytes : goal.returns-clause-bytes
returns-clause-bytes c = λ x is. c.range.ensures.value ∙ from_start _ c.args.text.now ∙ prefix_bytes c.args.text.now c.args.rest.now x c.utf8.text c.utf8.rest is
