-- The replies to `words`.
use Rattle.std.proofs.Common.{◌≡◌, ◌⊎◌, inl, inr, ℕ, Bool, List, [], Option, Some, None, Result, Err, refl, subst, sym}
use Rattle.std.specs.Option.{option_map}
use Rattle.sbl_bench.specs.Contents.{Contents}
use Rattle.sbl_bench.specs.Edits as bench
use Rattle.sbl_bench.specs.Edits.{Edits}
use Rattle.sbl_bench.specs.declared.fault.EditFault.{EditFault}
use Rattle.sbl_bench.specs.declared.fault.EditFault.TheVariants as fault
use Rattle.sbl_history.specs.Desks.{State}
use Rattle.sbl_input.specs.FileWords.{IsLineFault, file_lines, file_words, first_line_fault}
use Rattle.sbl_input.specs.declared.faults.LoadFault.{LoadFault}
use Rattle.sbl_input.specs.declared.faults.LoadFault.TheVariants as load
use Rattle.sbl_io.specs.declared.faults.ServeFault.{ServeFault}
use Rattle.sbl_io.specs.declared.faults.ServeFault.TheVariants as serve
use Rattle.sbl_sessions.specs.Answers.{edit_text}
use Rattle.sbl_sessions.specs.CommandViews.{IsReply}
use Rattle.sbl_sessions.specs.declared.replies.Reply.{Reply}
use Rattle.sbl_work.specs.Commands.{Words, with_file}
use Rattle.sbl_work.specs.Replies.{RereadsWords, words_text}
use Rattle.sbl_work.specs.ReplyViews.{IsWorkAnswer}

-- ---- the words in the lines of a file

module _ (may_break : Bool) (bytes : List ℕ) (s : Contents) where
  line_refused : (g : ServeFault) → first_line_fault (file_lines bytes) ≡ Some g → RereadsWords may_break (Err (load.Input g)) bytes s s
  line_refused serve.OutOfMemory is = refl
  line_refused serve.Read is = (is, refl)
  line_refused serve.Write is = (is, refl)
  line_refused serve.LineTooLong is = (is, refl)
  line_refused serve.Cut is = (is, refl)
  line_refused serve.LengthsDiffer is = (is, refl)
  line_refused serve.NotText is = (is, refl)

  -- a line is no word, or an allocation fails
  pub words_unread : (f : LoadFault) → (f ≡ load.Input serve.OutOfMemory) ⊎ IsLineFault bytes f → RereadsWords may_break (Err f) bytes s s
  words_unread f (inl same) = subst (λ (x : LoadFault). RereadsWords may_break (Err x) bytes s s) (sym same) refl
  words_unread f (inr is) = by (first_line_fault (file_lines bytes)) refl is
    where
      by : (o : Option ServeFault) → first_line_fault (file_lines bytes) ≡ o → option_map load.Input o ≡ Some f → RereadsWords may_break (Err f) bytes s s
      by None e h = cc h
      by (Some g) e h = let same : load.Input g ≡ f = cc h in subst (λ (x : LoadFault). RereadsWords may_break (Err x) bytes s s) same (line_refused g e)

  -- the words are those of the edit
  pub words_edit : (t : Contents) (r : Result (Unit {0}) EditFault) (ws : List (List ℕ)) → ws ≡ file_words bytes → Edits r s (bench.Words ws) t → Edits r s (bench.Words (file_words bytes)) t
  words_edit t r ws same edits = subst (λ (l : List (List ℕ)). Edits r s (bench.Words l) t) same edits

-- ---- the reply

pub words_answer : (s t : Contents) (d : State) (bytes : List ℕ) (result : Result (Unit {0}) LoadFault) (r : Reply) → RereadsWords d.may_break result bytes s t → IsReply r (words_text result)
    → IsWorkAnswer s d (Words bytes) r t d
words_answer s t d bytes result r rereads shown = (words_text result, shown, (result, rereads, refl, refl))

pub words_memory : (s : Contents) (d : State) (r : Reply) → IsReply r (edit_text (Some fault.OutOfMemory)) → (file : Option (List ℕ)) × IsWorkAnswer s d (with_file Words file) r s d
words_memory s d r shown = (Some [], words_answer s s d [] (Err (load.Input serve.OutOfMemory)) r refl shown)
