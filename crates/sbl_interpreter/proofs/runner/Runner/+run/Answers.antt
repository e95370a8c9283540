-- What the functions of the run cycle owe, each proved in the file that its name stands under.
mod Instructions
mod Choices
mod Calls
mod Inner
mod Payments
mod Tests
mod Bodies
use Rattle.sbl_interpreter.proofs.runner.Runner.+run.Goals as goal
use Rattle.sbl_interpreter.proofs.runner.Runner.+run.Answers.Instructions as instructions
use Rattle.sbl_interpreter.proofs.runner.Runner.+run.Answers.Choices as choices
use Rattle.sbl_interpreter.proofs.runner.Runner.+run.Answers.Calls as calls
use Rattle.sbl_interpreter.proofs.runner.Runner.+run.Answers.Inner as inner
use Rattle.sbl_interpreter.proofs.runner.Runner.+run.Answers.Payments as payments
use Rattle.sbl_interpreter.proofs.runner.Runner.+run.Answers.Tests as tests
use Rattle.sbl_interpreter.proofs.runner.Runner.+run.Answers.Bodies as bodies

pub run_from-returns-in_err-run_turns-in-Repeat-clause-follows : goal.run_from-returns-in_err-run_turns-in-Repeat-clause-follows
run_from-returns-in_err-run_turns-in-Repeat-clause-follows = instructions.run_from-returns-in_err-run_turns-in-Repeat-clause-follows

pub run_from-loop-at-preserved-in-Repeat-1 : goal.run_from-loop-at-preserved-in-Repeat-1
run_from-loop-at-preserved-in-Repeat-1 = instructions.run_from-loop-at-preserved-in-Repeat-1

pub run_from-returns-in_err-pay_all-in-Nested-clause-follows : goal.run_from-returns-in_err-pay_all-in-Nested-clause-follows
run_from-returns-in_err-pay_all-in-Nested-clause-follows = instructions.run_from-returns-in_err-pay_all-in-Nested-clause-follows

pub run_from-returns-in_err-run_inner-in-Nested-clause-follows : goal.run_from-returns-in_err-run_inner-in-Nested-clause-follows
run_from-returns-in_err-run_inner-in-Nested-clause-follows = instructions.run_from-returns-in_err-run_inner-in-Nested-clause-follows

pub run_from-loop-at-preserved-then-branch-5 : goal.run_from-loop-at-preserved-then-branch-5
run_from-loop-at-preserved-then-branch-5 = instructions.run_from-loop-at-preserved-then-branch-5

pub run_from-loop-at-preserved : goal.run_from-loop-at-preserved
run_from-loop-at-preserved = instructions.run_from-loop-at-preserved

pub run_from-loop-at-preserved-in-None-get : goal.run_from-loop-at-preserved-in-None-get
run_from-loop-at-preserved-in-None-get = choices.run_from-loop-at-preserved-in-None-get

pub run_from-loop-at-preserved-in-Some-get : goal.run_from-loop-at-preserved-in-Some-get
run_from-loop-at-preserved-in-Some-get = choices.run_from-loop-at-preserved-in-Some-get

pub run_from-loop-at-preserved-then-branch-3 : goal.run_from-loop-at-preserved-then-branch-3
run_from-loop-at-preserved-then-branch-3 = choices.run_from-loop-at-preserved-then-branch-3

pub run_from-loop-at-preserved-else-branch-3 : goal.run_from-loop-at-preserved-else-branch-3
run_from-loop-at-preserved-else-branch-3 = choices.run_from-loop-at-preserved-else-branch-3

pub run_search-loop-place-init : goal.run_search-loop-place-init
run_search-loop-place-init = calls.run_search-loop-place-init

pub run_search-loop-place-preserved : goal.run_search-loop-place-preserved
run_search-loop-place-preserved = calls.run_search-loop-place-preserved

pub run_search-returns-in-Err-clause-follows : goal.run_search-returns-in-Err-clause-follows
run_search-returns-in-Err-clause-follows = calls.run_search-returns-in-Err-clause-follows

pub run_search-returns-in-Ok-true-clause-follows : goal.run_search-returns-in-Ok-true-clause-follows
run_search-returns-in-Ok-true-clause-follows = calls.run_search-returns-in-Ok-true-clause-follows

pub run_call-returns-in_err-signal-in-Some-clause-follows : goal.run_call-returns-in_err-signal-in-Some-clause-follows
run_call-returns-in_err-signal-in-Some-clause-follows = calls.run_call-returns-in_err-signal-in-Some-clause-follows

pub run_call-returns-in_ok-leave-in-Some-clause-follows : goal.run_call-returns-in_ok-leave-in-Some-clause-follows
run_call-returns-in_ok-leave-in-Some-clause-follows = calls.run_call-returns-in_ok-leave-in-Some-clause-follows

pub run_times-loop-left-preserved : goal.run_times-loop-left-preserved
run_times-loop-left-preserved = calls.run_times-loop-left-preserved

pub run_times-returns-in_err-run_from-clause-follows : goal.run_times-returns-in_err-run_from-clause-follows
run_times-returns-in_err-run_from-clause-follows = calls.run_times-returns-in_err-run_from-clause-follows

pub run_inner-returns-in-Loop-clause-follows : goal.run_inner-returns-in-Loop-clause-follows
run_inner-returns-in-Loop-clause-follows = inner.run_inner-returns-in-Loop-clause-follows

pub run_inner-returns-in-AtLeast-clause-follows : goal.run_inner-returns-in-AtLeast-clause-follows
run_inner-returns-in-AtLeast-clause-follows = inner.run_inner-returns-in-AtLeast-clause-follows

pub run_inner-returns-in-SetLimit-clause-follows : goal.run_inner-returns-in-SetLimit-clause-follows
run_inner-returns-in-SetLimit-clause-follows = inner.run_inner-returns-in-SetLimit-clause-follows

pub run_inner-returns-in-Search-clause-follows : goal.run_inner-returns-in-Search-clause-follows
run_inner-returns-in-Search-clause-follows = inner.run_inner-returns-in-Search-clause-follows

pub run_from-returns-in_err-pay_for-in-Pay-clause-follows : goal.run_from-returns-in_err-pay_for-in-Pay-clause-follows
run_from-returns-in_err-pay_for-in-Pay-clause-follows = payments.run_from-returns-in_err-pay_for-in-Pay-clause-follows

pub run_from-returns-in_err-pay_for-in-Act-clause-follows : goal.run_from-returns-in_err-pay_for-in-Act-clause-follows
run_from-returns-in_err-pay_for-in-Act-clause-follows = payments.run_from-returns-in_err-pay_for-in-Act-clause-follows

pub run_from-returns-in_err-pay_for-in-Save-clause-follows : goal.run_from-returns-in_err-pay_for-in-Save-clause-follows
run_from-returns-in_err-pay_for-in-Save-clause-follows = payments.run_from-returns-in_err-pay_for-in-Save-clause-follows

pub run_from-returns-in_err-pay_for-in-SeekGrouping-clause-follows : goal.run_from-returns-in_err-pay_for-in-SeekGrouping-clause-follows
run_from-returns-in_err-pay_for-in-SeekGrouping-clause-follows = payments.run_from-returns-in_err-pay_for-in-SeekGrouping-clause-follows

pub run_from-returns-in_err-pay_for-in-Choose-clause-follows : goal.run_from-returns-in_err-pay_for-in-Choose-clause-follows
run_from-returns-in_err-pay_for-in-Choose-clause-follows = payments.run_from-returns-in_err-pay_for-in-Choose-clause-follows

pub run_from-returns-in_err-pay_for-in-Character-clause-follows : goal.run_from-returns-in_err-pay_for-in-Character-clause-follows
run_from-returns-in_err-pay_for-in-Character-clause-follows = payments.run_from-returns-in_err-pay_for-in-Character-clause-follows

pub run_from-returns-in_err-pay_for-in-Literal-clause-follows : goal.run_from-returns-in_err-pay_for-in-Literal-clause-follows
run_from-returns-in_err-pay_for-in-Literal-clause-follows = payments.run_from-returns-in_err-pay_for-in-Literal-clause-follows

pub run_from-returns-in_err-pay_for-in-Grouping-clause-follows : goal.run_from-returns-in_err-pay_for-in-Grouping-clause-follows
run_from-returns-in_err-pay_for-in-Grouping-clause-follows = payments.run_from-returns-in_err-pay_for-in-Grouping-clause-follows

pub run_from-returns-in_err-pay_for-in-LeftBracket-clause-follows : goal.run_from-returns-in_err-pay_for-in-LeftBracket-clause-follows
run_from-returns-in_err-pay_for-in-LeftBracket-clause-follows = payments.run_from-returns-in_err-pay_for-in-LeftBracket-clause-follows

pub run_from-returns-in_err-pay_for-in-RightBracket-clause-follows : goal.run_from-returns-in_err-pay_for-in-RightBracket-clause-follows
run_from-returns-in_err-pay_for-in-RightBracket-clause-follows = payments.run_from-returns-in_err-pay_for-in-RightBracket-clause-follows

pub run_from-returns-in_err-pay_for-in-Boolean-clause-follows : goal.run_from-returns-in_err-pay_for-in-Boolean-clause-follows
run_from-returns-in_err-pay_for-in-Boolean-clause-follows = payments.run_from-returns-in_err-pay_for-in-Boolean-clause-follows

pub run_from-returns-in_err-pay_for-in-Next-clause-follows : goal.run_from-returns-in_err-pay_for-in-Next-clause-follows
run_from-returns-in_err-pay_for-in-Next-clause-follows = payments.run_from-returns-in_err-pay_for-in-Next-clause-follows

pub run_from-loop-at-preserved-in-Pay-1 : goal.run_from-loop-at-preserved-in-Pay-1
run_from-loop-at-preserved-in-Pay-1 = tests.run_from-loop-at-preserved-in-Pay-1

pub run_from-loop-at-preserved-in-LeftBracket-1 : goal.run_from-loop-at-preserved-in-LeftBracket-1
run_from-loop-at-preserved-in-LeftBracket-1 = tests.run_from-loop-at-preserved-in-LeftBracket-1

pub run_from-loop-at-preserved-in-RightBracket-1 : goal.run_from-loop-at-preserved-in-RightBracket-1
run_from-loop-at-preserved-in-RightBracket-1 = tests.run_from-loop-at-preserved-in-RightBracket-1

pub run_from-loop-at-preserved-then-take_character : goal.run_from-loop-at-preserved-then-take_character
run_from-loop-at-preserved-then-take_character = tests.run_from-loop-at-preserved-then-take_character

pub run_from-loop-at-preserved-else-take_character : goal.run_from-loop-at-preserved-else-take_character
run_from-loop-at-preserved-else-take_character = tests.run_from-loop-at-preserved-else-take_character

pub run_from-loop-at-preserved-then-test_boolean : goal.run_from-loop-at-preserved-then-test_boolean
run_from-loop-at-preserved-then-test_boolean = tests.run_from-loop-at-preserved-then-test_boolean

pub run_from-loop-at-preserved-else-test_boolean : goal.run_from-loop-at-preserved-else-test_boolean
run_from-loop-at-preserved-else-test_boolean = tests.run_from-loop-at-preserved-else-test_boolean

pub run_from-loop-at-preserved-then-take_next : goal.run_from-loop-at-preserved-then-take_next
run_from-loop-at-preserved-then-take_next = tests.run_from-loop-at-preserved-then-take_next

pub run_from-loop-at-preserved-else-take_next : goal.run_from-loop-at-preserved-else-take_next
run_from-loop-at-preserved-else-take_next = tests.run_from-loop-at-preserved-else-take_next

pub run_body-returns-in_err-pay_for-in-Grouping-clause-follows : goal.run_body-returns-in_err-pay_for-in-Grouping-clause-follows
run_body-returns-in_err-pay_for-in-Grouping-clause-follows = bodies.run_body-returns-in_err-pay_for-in-Grouping-clause-follows

pub run_body-returns-in_err-pay_for-in-Character-clause-follows : goal.run_body-returns-in_err-pay_for-in-Character-clause-follows
run_body-returns-in_err-pay_for-in-Character-clause-follows = bodies.run_body-returns-in_err-pay_for-in-Character-clause-follows

pub run_body-returns-in_err-pay_for-in-LeftBracket-clause-follows : goal.run_body-returns-in_err-pay_for-in-LeftBracket-clause-follows
run_body-returns-in_err-pay_for-in-LeftBracket-clause-follows = bodies.run_body-returns-in_err-pay_for-in-LeftBracket-clause-follows

pub run_body-returns-in_err-take_grouping-in-Grouping-clause-follows : goal.run_body-returns-in_err-take_grouping-in-Grouping-clause-follows
run_body-returns-in_err-take_grouping-in-Grouping-clause-follows = bodies.run_body-returns-in_err-take_grouping-in-Grouping-clause-follows

pub run_body-returns-then-branch-clause-follows : goal.run_body-returns-then-branch-clause-follows
run_body-returns-then-branch-clause-follows = bodies.run_body-returns-then-branch-clause-follows

pub run_body-returns-then-branch-clause-no_more : goal.run_body-returns-then-branch-clause-no_more
run_body-returns-then-branch-clause-no_more = bodies.run_body-returns-then-branch-clause-no_more

pub run_body-returns-else-branch-clause-follows : goal.run_body-returns-else-branch-clause-follows
run_body-returns-else-branch-clause-follows = bodies.run_body-returns-else-branch-clause-follows

pub run_body-returns-else-branch-clause-no_more : goal.run_body-returns-else-branch-clause-no_more
run_body-returns-else-branch-clause-no_more = bodies.run_body-returns-else-branch-clause-no_more

pub run_body-returns-then-take_character-clause-follows : goal.run_body-returns-then-take_character-clause-follows
run_body-returns-then-take_character-clause-follows = bodies.run_body-returns-then-take_character-clause-follows

pub run_body-returns-then-take_character-clause-no_more : goal.run_body-returns-then-take_character-clause-no_more
run_body-returns-then-take_character-clause-no_more = bodies.run_body-returns-then-take_character-clause-no_more

pub run_body-returns-else-take_character-clause-follows : goal.run_body-returns-else-take_character-clause-follows
run_body-returns-else-take_character-clause-follows = bodies.run_body-returns-else-take_character-clause-follows

pub run_body-returns-else-take_character-clause-no_more : goal.run_body-returns-else-take_character-clause-no_more
run_body-returns-else-take_character-clause-no_more = bodies.run_body-returns-else-take_character-clause-no_more

pub run_body-returns-in_ok-pay_for-in-LeftBracket-clause-follows : goal.run_body-returns-in_ok-pay_for-in-LeftBracket-clause-follows
run_body-returns-in_ok-pay_for-in-LeftBracket-clause-follows = bodies.run_body-returns-in_ok-pay_for-in-LeftBracket-clause-follows

pub run_body-returns-in_ok-pay_for-in-LeftBracket-clause-no_more : goal.run_body-returns-in_ok-pay_for-in-LeftBracket-clause-no_more
run_body-returns-in_ok-pay_for-in-LeftBracket-clause-no_more = bodies.run_body-returns-in_ok-pay_for-in-LeftBracket-clause-no_more

pub run_bracketed-returns-in_err-pay_all-in-Search-clause-follows : goal.run_bracketed-returns-in_err-pay_all-in-Search-clause-follows
run_bracketed-returns-in_err-pay_all-in-Search-clause-follows = bodies.run_bracketed-returns-in_err-pay_all-in-Search-clause-follows

pub run_bracketed-returns-in_err-run_search_all-in-Search-clause-follows : goal.run_bracketed-returns-in_err-run_search_all-in-Search-clause-follows
run_bracketed-returns-in_err-run_search_all-in-Search-clause-follows = bodies.run_bracketed-returns-in_err-run_search_all-in-Search-clause-follows

pub run_bracketed-returns-then-branch-clause-follows : goal.run_bracketed-returns-then-branch-clause-follows
run_bracketed-returns-then-branch-clause-follows = bodies.run_bracketed-returns-then-branch-clause-follows

pub run_bracketed-returns-then-branch-clause-no_more : goal.run_bracketed-returns-then-branch-clause-no_more
run_bracketed-returns-then-branch-clause-no_more = bodies.run_bracketed-returns-then-branch-clause-no_more

pub run_bracketed-returns-else-branch-clause-follows : goal.run_bracketed-returns-else-branch-clause-follows
run_bracketed-returns-else-branch-clause-follows = bodies.run_bracketed-returns-else-branch-clause-follows

pub run_bracketed-returns-else-branch-clause-no_more : goal.run_bracketed-returns-else-branch-clause-no_more
run_bracketed-returns-else-branch-clause-no_more = bodies.run_bracketed-returns-else-branch-clause-no_more
