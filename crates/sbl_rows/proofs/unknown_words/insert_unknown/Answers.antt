use Rattle.std.proofs.Common.{◌≡◌, ◌∙◌, ◌+◌, ◌∷◌, ℕ, List, drop, get_or, is_none, true, false, ap, refl, sym}
use Rattle.std.specs.BTreeSet.{BTreeSet}
use Rattle.sbl_rows.specs.Classes.{texts_of}
use Rattle.sbl_rows.specs.Counting.{put_texts, unknown_in}
use Rattle.sbl_rows.specs.KnownOutcomes.{Text, known_outcome}
use Rattle.sbl_rows.proofs.Loops.{next}
use Rattle.sbl_rows.proofs.SetFacts.{known-left, no_text, none_is, none_seen, unknown-put}
use Rattle.sbl_rows.proofs.unknown_words.insert_unknown.Goals as goal
use Rattle.sbl_rows.proofs.unknown_words.insert_unknown.Goals.{then-is_none+in_ok-insert, else-is_none}

pub loop-word-preserved : goal.loop-word-preserved
loop-word-preserved c =
    let o = known_outcome c.args.outcomes.now in
    let words = c.args.words.now in
    let i = c.loop-word.word-index in
    let x : Text = get_or words i no_text in
    let rest : List (List ℕ) = texts_of (drop (i + 1) words) in
    let old = c.loop-word.unknown.keys in
    let split : texts_of (drop i words) ≡ x.now ∷ rest = next (λ (t : Text). t.now) words i no_text x c.loop-word-test.true refl in
    let test : is_none (o x.now) ≡ c.is_none.result = ap is_none (sym c.outcome_of.ensures) ∙ none_seen c.outcome_of.result ∙ none_is c.outcome_of.result c.is_none.result (sym c.is_none.ensures) in
    let before = ap (λ (l : List (List ℕ)). put_texts (texts_of old) (unknown_in o l)) (sym split) ∙ c.loop-word.invariant in
    elim c.if-is_none.branch [
      | then-is_none+in_ok-insert w ↦
          unknown-put o old c.if-is_none.unknown.keys x rest (test ∙ w.if-is_none.true) (ap (λ (s : BTreeSet Text). s.keys) w.unknown-is ∙ w.in_ok-insert.ensures.keys) ∙ before
      | else-is_none w ↦
          ap (λ (s : BTreeSet Text). put_texts (texts_of s.keys) (unknown_in o rest)) w.unknown-is ∙ known-left o old x.now rest (test ∙ w.if-is_none.false) ∙ before
    ]
