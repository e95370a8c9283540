-- The reply to a limit that may be broken off.
use Rattle.std.proofs.Common.{◌≡◌, ℕ, Bool, List, Bor, Some, Result, Ok, Err, OnOk, IfErr, inl, inr, refl, subst, sym}
use Rattle.sbl_bench.specs.BreakingOff.{BreaksIfTold, EditsOrBreaks}
use Rattle.sbl_bench.specs.Contents.{Contents}
use Rattle.sbl_bench.specs.Edits.{Edits, Limit}
use Rattle.sbl_bench.specs.declared.fault.EditFault.{EditFault}
use Rattle.sbl_bench.specs.declared.fault.EditFault.TheVariants as fault
use Rattle.sbl_sessions.specs.Answers.{edit_text}
use Rattle.sbl_sessions.specs.CommandViews.{IsAnswer, IsAnswerOrBreak, IsEditAnswer}
use Rattle.sbl_sessions.specs.Commands.{Makes}
use Rattle.sbl_sessions.specs.EditFaults.{fault_in}
use Rattle.sbl_sessions.specs.declared.replies.Reply.TheVariants as reply
use Rattle.sbl_sessions.proofs.EditFacts.{answer_of_edit, edit_answered}

plain_answer : (r : Result (Unit {0}) EditFault) (s t : Contents) (n : ℕ) (text : Bor (List ℕ)) → Edits r s (Limit n) t → text.now ≡ edit_text (fault_in r)
    → IsAnswer s (Makes (Limit n)) (reply.Fixed text) t
plain_answer r s t n text h told =
    edit_answered (Makes (Limit n)) (Limit n) s t text refl (subst (λ (x : List ℕ). IsEditAnswer s (Limit n) x t) (sym told) (answer_of_edit r s t (Limit n) h))

pub limit_answer : (r : Result (Unit {0}) EditFault) (s t : Contents) (n : ℕ) (said said_now : Bool) (text : Bor (List ℕ)) → OnOk r (said_now ≡ said)
    → IfErr r (λ f. BreaksIfTold said said_now f) → EditsOrBreaks r s (Limit n) t → text.now ≡ edit_text (fault_in r) → IsAnswerOrBreak said said_now s (Makes (Limit n)) (reply.Fixed text) t
limit_answer (Ok u) s t n said said_now text silent asked h told = inl (silent, plain_answer (Ok u) s t n text h told)
limit_answer (Err fault.BrokenOff) s t n said said_now text silent asked h told = inr (asked, (text.now, refl, (n, refl, h, told)))
limit_answer (Err f) s t n said said_now text silent asked h told = inl (asked, plain_answer (Err f) s t n text h told)
