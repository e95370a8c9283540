use Rattle.std.proofs.Common.{◌∙◌, List, ℕ, ap, is_some, sym}
use Rattle.sbl_bench.specs.Contents.{word_fault}
use Rattle.sbl_bench.specs.Vocabulary.{vocabulary}
use Rattle.sbl_input.specs.WordLists.{texts_of}
use Rattle.sbl_input.proofs.WordListFacts.{room_for}
use Rattle.sbl_input.proofs.word_list.KeptWords.refuses.Goals as goal

pub returns-in-Plain : goal.returns-in-Plain
returns-in-Plain c = rw c.in-Plain.is (λ room.
    let list = c.in-Plain.field-0.items in
    c.is_some.ensures ∙ ap is_some (c.word_fault.ensures (vocabulary (texts_of list)) (room_for list c.args.word.now room)))

pub returns-in-Distinct : goal.returns-in-Distinct
returns-in-Distinct c = rw c.in-Distinct.is (λ room.
    let texts = texts_of c.in-Distinct.words.keys in
    c.is_some-in-Distinct.ensures ∙ ap is_some (c.word_fault-in-Distinct.ensures texts c.has_no_room.ensures ∙ ap (λ (ws : List (List ℕ)). word_fault ws c.args.word.now) (sym room)))
