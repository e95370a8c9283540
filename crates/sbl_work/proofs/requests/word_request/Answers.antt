use Rattle.std.proofs.Common.{◌≡◌, ◌∙◌, List, ℕ, Bool, Option, codes, false, true, refl, sym}
use Rattle.std.proofs.lemmas.Slice.Eq.{bytes_eq-Decides}
use Rattle.std.specs.Str.{bytes_eq}
use Rattle.sbl_sessions.specs.Commands.{line_command}
use Rattle.sbl_sessions.specs.Words.{command_word}
use Rattle.sbl_work.specs.Commands.{Session, mark_command, word_command}
use Rattle.sbl_work.proofs.requests.word_request.Goals as goal

of_mark : (file : Option (List ℕ)) (line : List ℕ) → command_word line ≡ codes "mark" → word_command file line ≡ mark_command file line
of_mark file line e = rw e refl

pub returns-in-mark : goal.returns-in-mark
returns-in-mark c = λ file.
    let line = c.args.line.now in
    c.mark_request.ensures file line (sym c.split_text.ensures.argument) ∙ sym (of_mark file line (sym c.split_text.ensures.word ∙ c.in-mark.is))

differ : (a b : List ℕ) → (a ≡ b → ⊥) → bytes_eq a b ≡ false
differ a b other = by (bytes_eq a b) refl
  where
    by : (t : Bool) → bytes_eq a b ≡ t → t ≡ false
    by true e = absurd (other ((bytes_eq-Decides a b).0 e))
    by false e = refl

no_other : (file : Option (List ℕ)) (line : List ℕ)
    → bytes_eq (command_word line) (codes "largest") ≡ false
    → bytes_eq (command_word line) (codes "families") ≡ false
    → bytes_eq (command_word line) (codes "replace") ≡ false
    → bytes_eq (command_word line) (codes "why") ≡ false
    → bytes_eq (command_word line) (codes "events") ≡ false
    → bytes_eq (command_word line) (codes "integers") ≡ false
    → bytes_eq (command_word line) (codes "uses") ≡ false
    → bytes_eq (command_word line) (codes "find") ≡ false
    → bytes_eq (command_word line) (codes "stem") ≡ false
    → bytes_eq (command_word line) (codes "show") ≡ false
    → bytes_eq (command_word line) (codes "save") ≡ false
    → bytes_eq (command_word line) (codes "append") ≡ false
    → bytes_eq (command_word line) (codes "mark") ≡ false
    → bytes_eq (command_word line) (codes "approve") ≡ false
    → bytes_eq (command_word line) (codes "tokens") ≡ false
    → bytes_eq (command_word line) (codes "faults") ≡ false
    → bytes_eq (command_word line) (codes "changes") ≡ false
    → Session (line_command line) ≡ word_command file line
no_other file line w1 w2 w3 w4 w5 w6 w7 w8 w9 w10 w11 w12 w13 w14 w15 w16 w17 = rw (w1, w2, w3, w4, w5, w6, w7, w8, w9, w10, w11, w12, w13, w14, w15, w16, w17) refl

pub returns-in_default : goal.returns-in_default
returns-in_default c = λ file.
    let line = c.args.line.now in
    let lacks : (x : List ℕ) → (c.split_text.result.0.now ≡ x → ⊥) → bytes_eq (command_word line) x ≡ false =
    λ x other. differ (command_word line) x (λ e. other (c.split_text.ensures.word ∙ e)) in
    no_other file line
    (lacks (codes "largest") c.in_default.not-largest)
    (lacks (codes "families") c.in_default.not-families)
    (lacks (codes "replace") c.in_default.not-replace)
    (lacks (codes "why") c.in_default.not-why)
    (lacks (codes "events") c.in_default.not-events)
    (lacks (codes "integers") c.in_default.not-integers)
    (lacks (codes "uses") c.in_default.not-uses)
    (lacks (codes "find") c.in_default.not-find)
    (lacks (codes "stem") c.in_default.not-stem)
    (lacks (codes "show") c.in_default.not-show)
    (lacks (codes "save") c.in_default.not-save)
    (lacks (codes "append") c.in_default.not-append)
    (lacks (codes "mark") c.in_default.not-mark)
    (lacks (codes "approve") c.in_default.not-approve)
    (lacks (codes "tokens") c.in_default.not-tokens)
    (lacks (codes "faults") c.in_default.not-faults)
    (lacks (codes "changes") c.in_default.not-changes)
