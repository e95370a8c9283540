use Rattle.std.proofs.Common.{rules, ◌≡◌, ◌++◌, ◌∷◌, [], ℕ, OnOk, Ok, Err, Result, true, false, sym, refl}
use Rattle.sbl_reports.specs.Families.{is_feed, is_separator}
use Rattle.sbl_reports.specs.FamilyReader.{families_read, words_read}
use Rattle.sbl_reports.specs.declared.families.Reader.{Reader}
use Rattle.sbl_reports.proofs.FamilyFacts.{read_feed, read_other, read_separator}
use Rattle.sbl_reports.proofs.families.Reader.take.Goals as goal
use Rattle.sbl_reports.proofs.families.Reader.take.Goals.{then-character-eq32-via-then-character-eq32, then-character-eq32-via-else-character-eq32+then-character-eq9, then-character-eq32-via-else-character-eq32+else-character-eq9+then-character-eq44}

-- what three facts give on the way out that is no error
on_ok : {T E A B C D : Type 0} (r : Result T E) → OnOk r A → OnOk r B → OnOk r C → (A → B → C → D) → OnOk r D
on_ok (Ok x) a b c f = f a b c
on_ok (Err e) a b c f = tt

feed_test : (c : ℕ) → c ≡ 10 → is_feed c ≡ true
feed_test c e = rw e refl

pub returns-then-character-eq10 : goal.returns-then-character-eq10
returns-then-character-eq10 c =
    let r : Reader = c.args.self.now in
    on_ok c.end_line.result c.end_line.ensures.families c.end_line.ensures.family c.end_line.ensures.word
    (λ a b d text. rw (a, b, d) (sym (read_feed (families_read r.families.items) (words_read r.family.items) r.word.items c.args.character text (feed_test c.args.character (search rules)))))

pub returns-then-character-eq32 : goal.returns-then-character-eq32
returns-then-character-eq32 c =
    let r : Reader = c.args.self.now in
    let other : is_feed c.args.character ≡ false = search rules in
    let separates : is_separator c.args.character ≡ true = elim c.then-character-eq32.branch [
      | then-character-eq32-via-then-character-eq32 w ↦ search rules
      | then-character-eq32-via-else-character-eq32+then-character-eq9 w ↦ search rules
      | then-character-eq32-via-else-character-eq32+else-character-eq9+then-character-eq44 w ↦ search rules
    ] in
    on_ok c.end_word.result c.end_word.ensures.families c.end_word.ensures.family c.end_word.ensures.word
    (λ a b d text. rw (a, b, d) (sym (read_separator (families_read r.families.items) (words_read r.family.items) r.word.items c.args.character text other separates)))

pub returns : goal.returns
returns c = λ text.
    let r : Reader = c.args.self.now in
    let other : is_feed c.args.character ≡ false = search rules in
    let inside : is_separator c.args.character ≡ false = search rules in
    let word : c.push.new.self.items ≡ r.word.items ++ c.args.character ∷ [] = search rules in
    rw word (sym (read_other (families_read r.families.items) (words_read r.family.items) r.word.items c.args.character text other inside))
