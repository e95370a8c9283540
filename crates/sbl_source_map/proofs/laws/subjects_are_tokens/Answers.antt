use Rattle.sbl_source_map.proofs.AtTokens as at
use Rattle.sbl_source_map.proofs.laws.subjects_are_tokens.Goals as goal

pub returns : goal.returns
returns c = at.are_tokens
