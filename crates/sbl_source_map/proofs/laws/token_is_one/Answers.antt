use Rattle.sbl_source_map.proofs.AtTokens as at
use Rattle.sbl_source_map.proofs.laws.token_is_one.Goals as goal

pub returns-clause-subject : goal.returns-clause-subject
returns-clause-subject c = at.is_subject

pub returns-clause-one : goal.returns-clause-one
returns-clause-one c = at.is_at_one c.tokens_are_one.ensures.places c.one_tree.ensures.text
