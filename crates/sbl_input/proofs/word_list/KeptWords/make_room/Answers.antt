use Rattle.std.proofs.Common.{◌≡◌, ◌∙◌, ℕ, List, None, ap, sym, subst}
use Rattle.std.specs.declared.vec.Vec.{Vec}
use Rattle.std.specs.declared.alloc.Global.{Global}
use Rattle.sbl_bench.specs.Vocabulary.{vocabulary}
use Rattle.sbl_input.specs.WordLists.{AreKept, texts_in, texts_of}
use Rattle.sbl_input.proofs.WordListFacts.{distinct-vocabulary, kept-distinct}
use Rattle.sbl_input.proofs.word_list.KeptWords.make_room.Goals as goal

pub returns-in_ok-distinct-clause-kept : goal.returns-in_ok-distinct-clause-kept
returns-in_ok-distinct-clause-kept c = λ all kept.
    let same : texts_of c.in_ok-distinct.field-0.keys ≡ vocabulary (texts_in c.args.self.now) =
    c.in_ok-distinct.ensures ∙ ap (λ (words : Vec (Vec ℕ Global) Global). vocabulary (texts_of words.items)) c.replace-words.ensures.value
    ∙ ap (λ words. vocabulary (texts_in words)) (sym c.in-Plain.is) in
    subst (λ (words : List (List ℕ)). AreKept words None all) (sym same) (kept-distinct (texts_in c.args.self.now) all kept)

pub returns-in_ok-distinct-clause-room : goal.returns-in_ok-distinct-clause-room
returns-in_ok-distinct-clause-room c = λ _.
    let same = c.in_ok-distinct.ensures in
    ap vocabulary same ∙ distinct-vocabulary (texts_of c.replace-words.result.items) ∙ sym same
