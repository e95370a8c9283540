use Rattle.std.proofs.Common.{◌≡◌, ◌++◌, map, drop}
use Rattle.sbl_text.specs.Tokens.{placed_of}
use Rattle.sbl_source_map.specs.SubjectTokens.{subject_tokens, subject_tokens_after}
use Rattle.sbl_source_map.specs.Walks.{open_in, range_of}
use Rattle.sbl_source_map.proofs.subject_tokens.subject_ranges.Given as goal

abbrev pub invariant-loop-token : goal.invariant-loop-token
invariant-loop-token l =
    l.ranges.items ++ map range_of (subject_tokens_after l.brackets.follows_among (open_in l.brackets) (map placed_of (drop l.token-index l.tokens)))
    ≡ map range_of (subject_tokens (map placed_of l.tokens))
