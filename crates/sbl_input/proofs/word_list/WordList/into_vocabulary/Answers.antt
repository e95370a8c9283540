use Rattle.std.proofs.Common.{◌≡◌, ◌∙◌, ℕ, List, Option, None, Some, [], ap, is_some, subst, sym, true≢false}
use Rattle.std.specs.declared.vec.Vec.{Vec}
use Rattle.std.specs.declared.alloc.Global.{Global}
use Rattle.sbl_bench.specs.Contents.{opening_fault, word_fault}
use Rattle.sbl_bench.specs.Vocabulary.{vocabulary}
use Rattle.sbl_bench.proofs.Listing.{is_fault}
use Rattle.sbl_input.specs.WordLists.{AreKept, IsVocabulary, texts_in, texts_of}
use Rattle.sbl_input.proofs.WordListFacts.{fault_refused, kept_of, vocabulary_kept}
use Rattle.sbl_input.proofs.word_list.WordList.into_vocabulary.Goals as goal
use Rattle.sbl_input.proofs.word_list.WordList.into_vocabulary.Goals.{in-Some+in_default-word_fault, in_default}

pub returns-in-Some-word_fault-clause-fault : goal.returns-in-Some-word_fault-clause-fault
returns-in-Some-word_fault-clause-fault c = λ all held.
    let words = texts_in c.args.self.words in
    let word = c.in-Some.word.items in
    let set : texts_of c.in_ok-set.set.keys ≡ vocabulary words = c.in_ok-set.ensures held.1 in
    let kept : AreKept words (Some word) all = subst (λ (r : Option (Vec ℕ Global)). AreKept words (kept_of r) all) c.in-Some.is held.0 in
    let same = ap (λ (w : List ℕ). word_fault (vocabulary words) w) (sym c.as_slice-text.ensures.value)
    ∙ ap (λ (ws : List (List ℕ)). word_fault ws c.as_slice-text.result.now) (sym set) in
    let tells = c.word_fault.ensures (texts_of c.in_ok-set.set.keys) c.has_no_room.ensures in
    is_fault (opening_fault [] all) c.in-Some-word_fault.fault (fault_refused words all word kept ∙ same ∙ sym tells ∙ c.in-Some-word_fault.is)

pub returns-clause-ok : goal.returns-clause-ok
returns-clause-ok c = λ all held.
    let words = texts_in c.args.self.words in
    let set : texts_of c.in_ok-set.set.keys ≡ vocabulary words = c.in_ok-set.ensures held.1 in
    let kept = λ (r : Option (Vec ℕ Global)). AreKept words (kept_of r) all in
    elim c.match-refused-2.branch [
      | in-Some+in_default-word_fault w ↦
          let word = w.in-Some.word.items in
          let some : AreKept words (Some word) all = subst kept w.in-Some.is held.0 in
          let same = ap (λ (w : List ℕ). word_fault (vocabulary words) w) (sym w.as_slice-text.ensures.value)
          ∙ ap (λ (ws : List (List ℕ)). word_fault ws w.as_slice-text.result.now) (sym set) in
          let tells = w.word_fault.ensures (texts_of c.in_ok-set.set.keys) w.has_no_room.ensures in
          let none : opening_fault [] all ≡ None = fault_refused words all word some ∙ same ∙ sym tells ∙ w.in_default-word_fault.is in
          absurd (true≢false (sym some.0 ∙ ap is_some none))
      | in_default w ↦
          let none : AreKept words None all = subst kept w.in_default.is held.0 in
          subst (λ (ws : List (List ℕ)). IsVocabulary ws all) (sym set) (vocabulary_kept words all none)
    ]
