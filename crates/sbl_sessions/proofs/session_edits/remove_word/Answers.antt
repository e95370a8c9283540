use Rattle.std.proofs.Common.{◌≡◌, List, ℕ, subst, sym, take, rules}
use Rattle.std.specs.Str.{chars}
use Rattle.sbl_bench.specs.KeptRuns.{contents_of}
use Rattle.sbl_bench.specs.Edits.{Edits, Remove}
use Rattle.sbl_sessions.specs.CommandViews.{IsEditAnswer}
use Rattle.sbl_sessions.proofs.EditFacts.{answer_of_edit}
use Rattle.sbl_sessions.proofs.FirstFacts.{first_taken, looks, removes_first}
use Rattle.sbl_sessions.proofs.session_edits.remove_word.Goals as goal

pub returns : goal.returns
returns c =
    let s = contents_of c.args.bench.now in
    let t = contents_of c.remove.new.self in
    let word = chars c.args.word.now in
    let first = first_taken c.first_characters-count.result c.first_characters-count.new.room word (search rules) c.first_characters-count.ensures.first in
    let cut : Edits c.remove.result s (Remove (take 256 word)) t = subst (λ (w : List ℕ). Edits c.remove.result s (Remove w) t) first c.remove.ensures.edits in
    let removes : Edits c.remove.result s (Remove word) t = removes_first c.remove.result s t word (looks s.words c.words_fit.ensures word) cut in
    subst (λ (text : List ℕ). IsEditAnswer s (Remove word) text t) (sym c.edit_text.ensures) (answer_of_edit c.remove.result s t (Remove word) removes)
