use Rattle.std.proofs.Common.{◌≡◌, ◌∙◌, ◌∷◌, ◌++◌, [], ℕ, List, None, ap, sym, subst}
use Rattle.std.specs.declared.vec.Vec.{Vec}
use Rattle.std.specs.declared.alloc.Global.{Global}
use Rattle.std.proofs.lemmas.List.{map-append}
use Rattle.sbl_bench.specs.Vocabulary.{vocabulary, with_word}
use Rattle.sbl_input.specs.WordLists.{AreKept, HasRoom, texts_in, texts_of}
use Rattle.sbl_input.proofs.WordListFacts.{kept-push, kept-with}
use Rattle.sbl_input.proofs.word_list.KeptWords.push.Goals as goal

pub returns-in_ok-push-in-Plain-clause-kept : goal.returns-in_ok-push-in-Plain-clause-kept
returns-in_ok-push-in-Plain-clause-kept c = λ all room kept none.
    let word = c.args.word.items in
    let old : texts_in c.args.self.now ≡ texts_of c.in-Plain.words.items = ap texts_in c.in-Plain.is in
    let new : texts_of c.push.new.self.items ≡ texts_in c.args.self.now ++ word ∷ [] =
    ap texts_of c.in_ok-push-in-Plain.ensures.items ∙ map-append {A = Vec ℕ Global} (λ w. w.items) c.in-Plain.words.items (c.args.word ∷ [])
    ∙ ap (λ (words : List (List ℕ)). words ++ word ∷ []) (sym old) in
    subst (λ (words : List (List ℕ)). AreKept words None (all ++ word ∷ [])) (sym new) (kept-push (texts_in c.args.self.now) all word kept none)

pub returns-in_ok-insert-in-Distinct-clause-kept : goal.returns-in_ok-insert-in-Distinct-clause-kept
returns-in_ok-insert-in-Distinct-clause-kept c = λ all room kept none.
    let word = c.args.word.items in
    let old : texts_in c.args.self.now ≡ texts_of c.in-Distinct.words.keys = ap texts_in c.in-Distinct.is in
    let new : texts_of c.insert.new.set.keys ≡ with_word (texts_in c.args.self.now) word =
    c.in_ok-insert-in-Distinct.ensures ∙ ap (λ (words : List (List ℕ)). with_word words word) (sym old) in
    let distinct : vocabulary (texts_of c.in-Distinct.words.keys) ≡ texts_of c.in-Distinct.words.keys = subst HasRoom c.in-Distinct.is room in
    subst (λ (words : List (List ℕ)). AreKept words None (all ++ word ∷ [])) (sym new)
    (kept-with (texts_in c.args.self.now) all word (ap vocabulary old ∙ distinct ∙ sym old) kept none)
