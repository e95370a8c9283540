use Rattle.std.proofs.Common.{◌∙◌, ℕ, ap, sym, nat_eq}
use Rattle.sbl_input.specs.WordLists.{texts_of}
use Rattle.sbl_input.proofs.WordListFacts.{insert-empty, insert-some}
use Rattle.sbl_input.proofs.word_list.insert.Goals as goal
use Rattle.sbl_input.proofs.word_list.insert.Goals.{in-Ok, in-Err}

pub returns-then-is_empty : goal.returns-then-is_empty
returns-then-is_empty c =
    insert-empty (texts_of c.args.set.now.keys) c.args.word.items (ap (λ (n : ℕ). nat_eq n 0) (sym c.args.word.ok.0) ∙ sym c.is_empty.ensures ∙ c.if-is_empty.true)

pub returns : goal.returns
returns c =
    let some = ap (λ (n : ℕ). nat_eq n 0) (sym c.args.word.ok.0) ∙ sym c.is_empty.ensures ∙ c.if-is_empty.false in
    elim c.match-insert.branch [
      | in-Ok w ↦ rw w.result-is (ap texts_of w.in-Ok.ensures.keys ∙ insert-some c.args.set.now.keys c.args.word some)
      | in-Err w ↦ rw w.result-is tt
    ]
