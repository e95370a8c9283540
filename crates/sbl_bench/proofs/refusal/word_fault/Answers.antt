use Rattle.std.proofs.Common.{rules}
use Rattle.sbl_bench.proofs.WordFaults.{long_word, empty_word, other_word}
use Rattle.sbl_bench.proofs.refusal.word_fault.Goals as goal

pub returns-then-word-gt-MAX_WORD_LENGTH : goal.returns-then-word-gt-MAX_WORD_LENGTH
returns-then-word-gt-MAX_WORD_LENGTH c = λ words room. search (rules, long_word words c.args.word.now)

pub returns-then-is_empty : goal.returns-then-is_empty
returns-then-is_empty c = λ words room. search (rules, empty_word words c.args.word.now)

pub returns-then-has_no_room : goal.returns-then-has_no_room
returns-then-has_no_room c = λ words room. search (rules, other_word words c.args.word.now c.args.has_no_room)

pub returns-else-has_no_room : goal.returns-else-has_no_room
returns-else-has_no_room c = λ words room. search (rules, other_word words c.args.word.now c.args.has_no_room)
