use Rattle.std.proofs.Common.{◌∙◌, ℕ, List, is_some, sym, ap, nat_eq}
use Rattle.sbl_bench.specs.Contents.{word_fault}
use Rattle.sbl_bench.specs.Vocabulary.{vocabulary}
use Rattle.sbl_input.specs.WordLists.{texts_in}
use Rattle.sbl_input.proofs.WordListFacts.{held-after, held-empty, held-none, kept-refuse, room-distinct}
use Rattle.sbl_input.proofs.word_list.WordList.push.Goals as goal

pub returns-then-is_some : goal.returns-then-is_some
returns-then-is_some c = λ all held.
    (held-after (texts_in c.args.self.now.words) all c.args.self.now.refused c.args.word.items (sym c.is_some.ensures ∙ c.if-is_some.true) held.0, held.1)

pub returns-then-is_empty : goal.returns-then-is_empty
returns-then-is_empty c = λ all held.
    let empty = ap (λ (n : ℕ). nat_eq n 0) (sym c.args.word.ok.0) ∙ sym c.is_empty.ensures ∙ c.if-is_empty.true in
    (held-empty (texts_in c.args.self.now.words) all c.args.self.now.refused c.args.word.items (sym c.is_some.ensures ∙ c.if-is_some.false) empty held.0, held.1)

pub returns-then-refuses : goal.returns-then-refuses
returns-then-refuses c = λ all held.
    let words = texts_in c.make_room.new.self in
    let kept = held-none (texts_in c.args.self.now.words) all c.args.self.now.refused (sym c.is_some.ensures ∙ c.if-is_some.false) held.0 in
    let room = c.in_ok-make_room.ensures.room held.1 in
    let wrong = ap (λ (w : List ℕ). is_some (word_fault (vocabulary words) w)) (sym c.as_slice.ensures.value) ∙ sym (c.refuses.ensures room) ∙ c.if-refuses.true in
    (kept-refuse words all c.args.word.items (c.in_ok-make_room.ensures.kept all kept) wrong, room-distinct c.make_room.new.self room)
