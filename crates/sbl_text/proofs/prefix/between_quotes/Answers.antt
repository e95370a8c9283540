use Rattle.std.specs.Str.{chars}
use Rattle.sbl_text.proofs.Texts.{before_quote}
use Rattle.sbl_text.proofs.prefix.between_quotes.Goals as goal

pub prefix_before-requires : goal.prefix_before-requires
prefix_before-requires c = (c.requires.0, before_quote (chars c.args.text.now) (chars c.in-Some.tail.now) c.requires.0 c.in-Some.field-0-0 c.in-Some.ensures.parts c.requires.1)

pub returns-in-Some-clause-characters : goal.returns-in-Some-clause-characters
returns-in-Some-clause-characters c = λ x is. c.prefix_before.ensures.characters x (before_quote (chars c.args.text.now) (chars c.in-Some.tail.now) x c.in-Some.field-0-0 c.in-Some.ensures.parts is)

pub returns-in-Some-clause-bytes : goal.returns-in-Some-clause-bytes
returns-in-Some-clause-bytes c = λ x is. c.prefix_before.ensures.bytes x (before_quote (chars c.args.text.now) (chars c.in-Some.tail.now) x c.in-Some.field-0-0 c.in-Some.ensures.parts is)
