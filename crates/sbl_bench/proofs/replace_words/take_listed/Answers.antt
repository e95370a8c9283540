use Rattle.std.proofs.Common.{◌≡◌, ◌∙◌, ◌⊎◌, ◌&&◌, ◌==◌, ℕ, List, [], ◌∷◌, Bool, true, false, Option, not, length, nat_le, inl, inr, arith, tests, refl, sym}
use Rattle.sbl_rows.specs.Classes.{texts_of}
use Rattle.sbl_rows.specs.KnownOutcomes.{Text, has_text}
use Rattle.sbl_bench.specs.Contents.{max_words, word_fault}
use Rattle.sbl_bench.specs.Vocabulary.{is_word, with_word}
use Rattle.sbl_bench.specs.declared.fault.EditFault.{EditFault}
use Rattle.sbl_bench.specs.inside.ProofNames.{is_full}
use Rattle.sbl_bench.proofs.Listing.{is_fault, put_seen}
use Rattle.sbl_bench.proofs.Taking.{skips}
use Rattle.sbl_bench.proofs.WordFaults.{none_unless}
use Rattle.sbl_bench.proofs.replace_words.take_listed.Goals as goal

-- the fault that was found is that of the word after those of the list
fault_after : (list slice : List Text) (word : List ℕ) (room there : Bool) (found : Option EditFault)
    → ((words : List (List ℕ)) → room ≡ (nat_le max_words (length words) && not (is_word word words)) → found ≡ word_fault words word)
    → slice ≡ list → room ≡ (is_full (texts_of slice) && not there) → there ≡ is_word word (texts_of list) → found ≡ word_fault (texts_of list) word
fault_after list slice word room there found by same full known = by (texts_of list) (full ∙ λ i. is_full (texts_of (same i)) && not (known i))

is_skipped_word : (w : List ℕ) (words : List (List ℕ)) (empty there : Bool) → (empty ≡ true) ⊎ ((empty ≡ false) × (there ≡ true)) → empty ≡ (length w == 0)
    → there ≡ is_word w words → words ≡ with_word words w
is_skipped_word [] words empty there either is known = refl
is_skipped_word (c ∷ w) words empty there (inl e) is known = absurd (grind (arith, tests, e, is))
is_skipped_word (c ∷ w) words empty there (inr e) is known = sym (skips (c ∷ w) words (sym known ∙ e.1))

pub returns-in-Some-clause-fault : goal.returns-in-Some-clause-fault
returns-in-Some-clause-fault c =
    let is = fault_after c.args.list.now.items c.as_slice.result.now c.args.word.now c.has_no_room.result c.contains-is_new.result c.word_fault.result
    c.word_fault.ensures c.as_slice.ensures.value c.has_no_room.ensures (c.contains-is_new.ensures ∙ c.requires c.args.word.now) in
    is_fault (word_fault (texts_of c.args.list.now.items) c.args.word.now) c.in-Some.fault (sym is ∙ c.in-Some.is)

pub returns-then-is_empty-clause-words : goal.returns-then-is_empty-clause-words
returns-then-is_empty-clause-words c =
    is_skipped_word c.args.word.now (texts_of c.args.list.now.items) c.is_empty.result c.contains-is_new.result c.then-is_empty.either c.is_empty.ensures (c.contains-is_new.ensures ∙ c.requires c.args.word.now)

pub returns-then-is_empty-clause-ok : goal.returns-then-is_empty-clause-ok
returns-then-is_empty-clause-ok c =
    let is = fault_after c.args.list.now.items c.as_slice.result.now c.args.word.now c.has_no_room.result c.contains-is_new.result c.word_fault.result
    c.word_fault.ensures c.as_slice.ensures.value c.has_no_room.ensures (c.contains-is_new.ensures ∙ c.requires c.args.word.now) in
    sym is ∙ none_unless c.word_fault.result c.in_default.not-Some

pub returns-clause-seen : goal.returns-clause-seen
returns-clause-seen c =
    put_seen (has_text c.args.seen.now) (has_text c.put_listed.new.seen) (texts_of c.args.list.now.items) (texts_of c.put_listed.new.list.items) c.args.word.now c.requires c.in_ok-put_listed.ensures.seen c.in_ok-put_listed.ensures.words
