use Rattle.sbl_text.proofs.Unique.{tokens_one, placed_tokens_one}
use Rattle.sbl_text.proofs.laws.tokens_are_one.Goals as goal

pub returns-clause-tokens : goal.returns-clause-tokens
returns-clause-tokens c = tokens_one

pub returns-clause-places : goal.returns-clause-places
returns-clause-places c = placed_tokens_one
