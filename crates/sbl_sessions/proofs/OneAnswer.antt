-- What is answered, and the bench after it, are one.
use Rattle.std.proofs.Common.{◌≡◌, ◌∙◌, ◌++◌, ℕ, List, [], ◌∷◌, Option, Some, None, sym, ap, subst}
use Rattle.sbl_bench.specs.Contents.{Contents}
use Rattle.sbl_bench.specs.Edits.{Edit, Add, Remove, Words, Replace, Whole, Limit}
use Rattle.sbl_bench.specs.OneVerdict.{VerdictIsOne}
use Rattle.sbl_bench.specs.declared.fault.EditFault.{EditFault}
use Rattle.sbl_bench.specs.declared.fault.EditFault.TheVariants as fault
use Rattle.sbl_sessions.specs.Answers.{Answers, BlockRefused, Enough, IsEdit, IsReplyTo, IsReport, Memory, RefusedAfter, Tells, edit_text}
use Rattle.sbl_sessions.specs.Commands.{Command, Makes, Reports, Says, HasNoText, command_of}
use Rattle.sbl_sessions.specs.OneAnswer.{AnswersAreOne}

tells-one : (s : Contents) (expected a b : List ℕ) (t u : Contents) → Tells s expected a t → Tells s expected b u → (a ≡ b) × (t ≡ u)
tells-one s expected a b t u p q = (p.0 ∙ sym q.0, p.1 ∙ sym q.1)

edit-one : VerdictIsOne → (s : Contents) (m : Memory) (e : Edit) (f g : Option EditFault) (t u : Contents) → IsEdit s m e f t → IsEdit s m e g u → (f ≡ g) × (t ≡ u)
edit-one one s Enough e f g t u p q = one s e f g t u p q
edit-one one s BlockRefused (Replace what text) f g t u p q = (p.0 ∙ sym q.0, p.1 ∙ sym q.1)
edit-one one s BlockRefused (Add word) f g t u p q = absurd p
edit-one one s BlockRefused (Remove word) f g t u p q = absurd p
edit-one one s BlockRefused (Words ws) f g t u p q = absurd p
edit-one one s BlockRefused (Whole bytes) f g t u p q = absurd p
edit-one one s BlockRefused (Limit n) f g t u p q = absurd p
edit-one one s (RefusedAfter n) e f g t u p q = (p.0 ∙ sym q.0, p.1 ∙ sym q.1)

report-one : (s : Contents) (report : Option (List ℕ)) (m : Memory) (a b : List ℕ) (t u : Contents) → IsReport s report m a t → IsReport s report m b u → (a ≡ b) × (t ≡ u)
report-one s None m a b t u p q = tells-one s (edit_text (Some fault.Absent)) a b t u p q
report-one s (Some report) Enough a b t u p q = tells-one s report a b t u p q
report-one s (Some report) BlockRefused a b t u p q = tells-one s (edit_text (Some fault.OutOfMemory)) a b t u p q
report-one s (Some report) (RefusedAfter n) a b t u p q = tells-one s (edit_text (Some fault.OutOfMemory)) a b t u p q

reply-one : VerdictIsOne → (s : Contents) (c : Command) (m : Memory) (a b : List ℕ) (t u : Contents) → IsReplyTo s c m a t → IsReplyTo s c m b u → (a ≡ b) × (t ≡ u)
reply-one one s (Makes e) m a b t u p q =
    let o = edit-one one s m e p.0 q.0 t u p.1 q.1 in
    (p.2 ∙ ap edit_text o.0 ∙ sym q.2, o.1)
reply-one one s (Reports report) m a b t u p q = report-one s (report s) m a b t u p q
reply-one one s (Says reply) m a b t u p q = tells-one s reply a b t u p q
reply-one one s (HasNoText f) m a b t u p q = report-one s (Some (edit_text (Some (fault.Script f)))) m a b t u p q

pub answers-one : VerdictIsOne → AnswersAreOne
answers-one one s [] [] a b t u p q = tells-one s [] a b t u p q
answers-one one s [] (memory ∷ m) a b t u p q = absurd p
answers-one one s (r ∷ requests) [] a b t u p q = absurd p
answers-one one s (r ∷ requests) (memory ∷ m) a b t u p q =
    let first = reply-one one s (command_of r) memory p.0 q.0 p.1 q.1 p.3 q.3 in
    let rest = answers-one one p.1 requests m p.2 q.2 t u p.4 (subst (λ (x : Contents). Answers x requests m q.2 u) (sym first.1) q.4) in
    (p.5 ∙ ap (λ (x : List ℕ). x ++ p.2) first.0 ∙ ap (λ (x : List ℕ). q.0 ++ x) rest.0 ∙ sym q.5, rest.1)
