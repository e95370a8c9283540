-- The replies to `mark` and `approve` with a file.
use Rattle.std.proofs.Common.{◌≡◌, inl, inr, ◌==◌, ℕ, Bool, true, false, List, [], Option, Some, None, length, refl}
use Rattle.std.specs.Option.{is_some}
use Rattle.std.specs.Borrow.{Bor}
use Rattle.sbl_bench.specs.Contents.{Contents, rows_now}
use Rattle.sbl_bench.specs.declared.fault.EditFault.TheVariants as fault
use Rattle.sbl_history.specs.Desks.{State}
use Rattle.sbl_io.specs.LinesOf.{lines_of}
use Rattle.sbl_reports.specs.StemLines.{are_text, have_lines, stems_in}
use Rattle.sbl_rows.specs.StemRows.{rows_with}
use Rattle.sbl_sessions.specs.Answers.{edit_text}
use Rattle.sbl_sessions.specs.CommandViews.{IsReply}
use Rattle.sbl_sessions.specs.declared.replies.Reply.{Reply}
use Rattle.sbl_work.specs.Commands.{Approve, MarkStems, with_file}
use Rattle.sbl_work.specs.Replies.{IsMarkReply, SetsMark, lengths_differ_text, mark_refusal, no_file_text, not_text_text, refused_text}
use Rattle.sbl_work.specs.ReplyViews.{IsWorkAnswer, view_file}

-- ---- the mark by a file

pub not_text : (s : Contents) (d : State) (bytes : List ℕ) (r : Reply) → are_text (lines_of bytes) ≡ false → IsReply r not_text_text → IsWorkAnswer s d (MarkStems bytes) r s d
not_text s d bytes r e shown = rw e (not_text_text, shown, inl (refl, refl, refl))

pub other_length : (s : Contents) (d : State) (bytes : List ℕ) (r : Reply) → are_text (lines_of bytes) ≡ true → (length (lines_of bytes) == length s.words) ≡ false
    → IsReply r lengths_differ_text → IsWorkAnswer s d (MarkStems bytes) r s d
other_length s d bytes r e f shown = rw (e, f) (lengths_differ_text, shown, inl (refl, refl, refl))

pub marks : (s : Contents) (d e : State) (bytes : List ℕ) (r : Reply) (text : List ℕ) → are_text (lines_of bytes) ≡ true → (length (lines_of bytes) == length s.words) ≡ true
    → IsReply r text → SetsMark (rows_with s.words (stems_in bytes)) s d text s e → IsWorkAnswer s d (MarkStems bytes) r s e
marks s d e bytes r text is same shown sets = rw (is, same) (text, shown, sets)

-- memory for the file is refused
pub mark_memory : (s : Contents) (d : State) (r : Reply) → IsReply r (edit_text (Some fault.OutOfMemory)) → (file : Option (List ℕ)) × IsWorkAnswer s d (with_file MarkStems file) r s d
mark_memory s d r shown = (Some [], (edit_text (Some fault.OutOfMemory), shown, by (mark_refusal s [])))
  where
    by : (o : Option (List ℕ)) → IsMarkReply o [] s d (edit_text (Some fault.OutOfMemory)) s d
    by None = inr (refl, refl, refl)
    by (Some refusal) = inr (refl, refl, refl)

-- ---- the stems in a file

pub no_lines : (s : Contents) (d : State) (is_written : Bool) (r : Reply) → have_lines (rows_now s) ≡ false → IsReply r refused_text → IsWorkAnswer s d (Approve is_written) r s d
no_lines s d is_written r e shown = rw e (refused_text, shown, inl (refl, refl, refl))

pub stems_are_written : (s : Contents) (d : State) (r : Reply) → have_lines (rows_now s) ≡ true → IsReply r (edit_text None) → IsWorkAnswer s d (Approve true) r s d
stems_are_written s d r e shown = rw e (edit_text None, shown, inl (refl, refl, refl))

pub stems_are_not_written : (s : Contents) (d : State) (r : Reply) → have_lines (rows_now s) ≡ true → IsReply r no_file_text → IsWorkAnswer s d (Approve false) r s d
stems_are_not_written s d r e shown = rw e (no_file_text, shown, inl (refl, refl, refl))

pub approve_memory : (s : Contents) (d : State) (r : Reply) → IsReply r (edit_text (Some fault.OutOfMemory)) → (is_written : Bool) × IsWorkAnswer s d (Approve is_written) r s d
approve_memory s d r shown = (true, (edit_text (Some fault.OutOfMemory), shown, inr (refl, refl, refl)))

pub file_for : (is_written : Bool) → (file : Option (List ℕ)) × (is_some file ≡ is_written)
file_for true = (Some [], refl)
file_for false = (None, refl)

pub seen_file : (file : Option (Bor (List ℕ))) → is_some file ≡ is_some (view_file file)
seen_file None = refl
seen_file (Some bytes) = refl
