-- No edit is broken off unless `--stop` names a file.
use Rattle.std.proofs.Common.{◌≡◌, ◌⊎◌, ◌∙◌, ◌++◌, inl, inr, ℕ, Bool, true, false, List, [], ◌∷◌, Option, Some, None, Result, Ok, Err, refl, ap, subst, length, nat_lt}
use Rattle.std.specs.Option.{is_some}
use Rattle.std.specs.Str.{is_utf8}
use Rattle.sbl_bench.specs.Contents.{Contents, rows_now}
use Rattle.sbl_bench.specs.Edits as bench
use Rattle.sbl_bench.specs.Edits.{Edit, Edits, Replace, Whole}
use Rattle.sbl_bench.specs.declared.fault.EditFault.{EditFault}
use Rattle.sbl_bench.specs.declared.fault.EditFault.TheVariants as edit
use Rattle.sbl_history.specs.Desks.{Redoes, State, Turns, Undoes, first_desk, text_in}
use Rattle.sbl_history.specs.Editing.{IsLimitNoted, Replaces, ReplacesPart}
use Rattle.sbl_history.specs.History.{EditKind, OfPart, OfScript, PastEdit, edit_of}
use Rattle.sbl_history.specs.MayBreak.{EditsOrBreaksIf}
use Rattle.sbl_history.specs.Refused.{RefusedText}
use Rattle.sbl_history.specs.ChangeReports.{change_figures_text, changes_text, first_changes_text}
use Rattle.sbl_history.specs.Listing.{history_text}
use Rattle.sbl_history.specs.declared.history.HistoryFault.{HistoryFault}
use Rattle.sbl_history.specs.declared.history.HistoryFault.TheVariants as turn
use Rattle.sbl_input.specs.FileWords.{file_words}
use Rattle.sbl_input.specs.declared.faults.LoadFault.TheVariants as load
use Rattle.sbl_io.specs.declared.faults.ServeFault.TheVariants as serve
use Rattle.sbl_ast.specs.NamedParts.{Part'}
use Rattle.sbl_uses.specs.Counts.{counts_text}
use Rattle.sbl_uses.specs.Unused.{unused_text}
use Rattle.sbl_reports.specs.Block.{max_script}
use Rattle.sbl_reports.specs.Lookups.{found_text}
use Rattle.sbl_reports.specs.Reports.{largest_text, stats_text}
use Rattle.sbl_reports.specs.StemLines.{stems_in}
use Rattle.sbl_rows.specs.Rows.{Row}
use Rattle.sbl_rows.specs.StemRows.{rows_with}
use Rattle.sbl_sessions.specs.Answers.{edit_text, with_line_feed}
use Rattle.sbl_sessions.specs.Commands.{Command}
use Rattle.sbl_sessions.specs.EditFaults.{fault_in}
use Rattle.sbl_source_map.specs.Definitions.{definition_text}
use Rattle.sbl_text_rows.specs.PlaceRows.{IsPlacesText}
use Rattle.sbl_text_rows.specs.TokenRows.{IsTokensText}
use Rattle.sbl_text.specs.declared.fault.ScriptFault.{ScriptFault}
use Rattle.sbl_work.specs.BreakLaws.{IsLastEdited, MayBreakStays, PartsAreEdited, RedoingIsEditing, SessionsReply, UndoingIsEditing, WholeScriptsAreEdited, WordsAreEdited, WorkBeginsUnbroken}
use Rattle.sbl_work.specs.Commands as command
use Rattle.sbl_work.specs.Commands.{WorkCommand, by_work_block}
use Rattle.sbl_work.specs.FaultReplies.{IsFaultsText, IsRefusedText, kept_after, kept_after_turn, refused_part, refused_whole}
use Rattle.sbl_work.specs.Replies.{IsDefinitionReply, IsFaultsReply, IsLargestReply, IsMarkReply, IsPartReply, IsSessionReply, IsTurnReply, IsWholeReply, IsWordsReply, IsWorkReply}
use Rattle.sbl_work.specs.Replies.{SetsMark, TellsFaults, TellsMemory, TellsReport, TellsRows, TellsTokens, approve_text, families_reply_text, integers_reply_text, mark_refusal, not_text_text}
use Rattle.sbl_work.specs.Replies.{redo_text, stem_reply_text, turn_text, undo_text, uses_reply_text, why_reply_text}

-- whether edits may be broken off is as before
abbrev Keeps : State → State → Type 0
Keeps d e = e.may_break ≡ d.may_break

same : (d e : State) → e ≡ d → Keeps d e
same d e is = ap (λ (x : State). x.may_break) is

kept_keeps : (result : Result (Unit {0}) EditFault) (refused : ScriptFault → RefusedText) (m : State) → Keeps m (kept_after result refused m)
kept_keeps (Ok u) refused m = refl
kept_keeps (Err (edit.Script f)) refused m = refl
kept_keeps (Err f) refused m = refl

turn_keeps : (result : Result (Unit {0}) HistoryFault) (m : State) → Keeps m (kept_after_turn result m)
turn_keeps (Ok u) m = refl
turn_keeps (Err f) m = refl

module _ (s : Contents) (d : State) (text : List ℕ) (t : Contents) (e : State) where
  report : (expected : List ℕ) → TellsReport expected s d text t e → Keeps d e
  report expected (inl (shown, bench, desk)) = same d e desk
  report expected (inr (shown, bench, desk)) = same d e desk

  memory : TellsMemory s d text t e → Keeps d e
  memory (shown, bench, desk) = same d e desk

  sets : (rows : List Row) → SetsMark rows s d text t e → Keeps d e
  sets rows (inl (shown, bench, desk)) = ap (λ (x : State). x.may_break) desk
  sets rows (inr (shown, bench, desk)) = same d e desk

  marks : (o : Option (List ℕ)) (bytes : List ℕ) → IsMarkReply o bytes s d text t e → Keeps d e
  marks None bytes h = sets (rows_with s.words (stems_in bytes)) h
  marks (Some refusal) bytes h = report refusal h

  replacing_keeps : (result : Result (Unit {0}) EditFault) (kind : EditKind) (what : Edit) (after : Option (List ℕ)) (m : State) → Replaces result kind what after s d t m → Keeps d m
  replacing_keeps (Ok u) kind what after m (edits, noted) = noted.rest.2
  replacing_keeps (Err f) kind what after m (edits, desk) = same d m desk

  part_replacing_keeps : (result : Result (Unit {0}) EditFault) (what : Part') (block : List ℕ) (m : State) → ReplacesPart result what block s d t m → Keeps d m
  part_replacing_keeps result what block m (inl (after, is, replaces)) = replacing_keeps result (OfPart what) (Replace what block) after m replaces
  part_replacing_keeps result what block m (inr (refused, bench, desk)) = same d m desk

  definition : (o : Option (List ℕ)) → IsDefinitionReply o s d text t e → Keeps d e
  definition None (shown, bench, desk) = same d e desk
  definition (Some line) h = report line h

  most : (o : Option ℕ) → IsLargestReply o s d text t e → Keeps d e
  most None (shown, bench, desk) = same d e desk
  most (Some n) h = report (largest_text n s) h

  tells_faults : (AreRows : List ℕ → Type 0) → TellsFaults AreRows s d text t e → Keeps d e
  tells_faults AreRows (inl (shown, bench, desk)) = same d e desk
  tells_faults AreRows (inr (shown, bench, desk)) = same d e desk

  faults : (o : Option RefusedText) → IsFaultsReply o s d text t e → Keeps d e
  faults None (shown, bench, desk) = same d e desk
  faults (Some refused) h = tells_faults (IsRefusedText s refused) h

  rows : (HasRows : List ℕ → List ℕ → Type 0) (is : Bool) (bytes : List ℕ) → TellsRows HasRows is bytes s d text t e → Keeps d e
  rows HasRows true bytes (inl (shown, bench, desk)) = same d e desk
  rows HasRows true bytes (inr (shown, bench, desk)) = same d e desk
  rows HasRows false bytes h = report not_text_text h

  tokens : (long : Bool) (bytes : List ℕ) → TellsTokens long bytes s d text t e → Keeps d e
  tokens true bytes (shown, bench, desk) = same d e desk
  tokens false bytes h = rows IsTokensText (is_utf8 bytes) bytes h

  limit : IsLimitNoted s t d e → Keeps d e
  limit (inl (is, desk)) = same d e desk
  limit (inr (not, desk)) = ap (λ (x : State). x.may_break) desk

  whole : (bytes : List ℕ) → IsWholeReply bytes s d text t e → Keeps d e
  whole bytes (result, (m, replaces, desk), shown) =
      ap (λ (x : State). x.may_break) desk ∙ kept_keeps result (refused_whole bytes) m ∙ replacing_keeps result OfScript (Whole bytes) (Some bytes) m replaces

  part : (what : Part') (block : List ℕ) → IsPartReply what block s d text t e → Keeps d e
  part what block (rest, result, m, head, replaces, desk, shown) =
      ap (λ (x : State). x.may_break) desk ∙ kept_keeps result (refused_part what block) m ∙ part_replacing_keeps result what rest m replaces

  undo : IsTurnReply Undoes undo_text s d text t e → Keeps d e
  undo (result, m, (turns, rest), desk, shown) = ap (λ (x : State). x.may_break) desk ∙ turn_keeps result m ∙ rest.2

  redo : IsTurnReply Redoes redo_text s d text t e → Keeps d e
  redo (result, m, (turns, rest), desk, shown) = ap (λ (x : State). x.may_break) desk ∙ turn_keeps result m ∙ rest.2

  words : (bytes : List ℕ) → IsWordsReply bytes s d text t e → Keeps d e
  words bytes (result, rereads, shown, desk) = same d e desk

-- a request keeps it
reply_keeps : (c : WorkCommand) (s : Contents) (d : State) (text : List ℕ) (t : Contents) (e : State) → IsWorkReply s d c text t e → Keeps d e
reply_keeps command.Nothing s d text t e (shown, bench, desk) = same d e desk
reply_keeps (command.Session x) s d text t e (is, noted) = limit s d text t e noted
reply_keeps (command.EditPart what block) s d text t e (inl h) = part s d text t e what block h
reply_keeps (command.EditPart what block) s d text t e (inr h) = memory s d text t e h
reply_keeps (command.NoPart what bytes f) s d text t e (inl (shown, bench, desk)) = ap (λ (x : State). x.may_break) desk
reply_keeps (command.NoPart what bytes f) s d text t e (inr h) = memory s d text t e h
reply_keeps (command.EditWhole x) s d text t e h = whole s d text t e x h
reply_keeps command.Undo s d text t e h = undo s d text t e h
reply_keeps command.Redo s d text t e h = redo s d text t e h
reply_keeps command.History s d text t e h = report s d text t e (history_text d.past) h
reply_keeps command.Mark s d text t e h = sets s d text t e (rows_now s) h
reply_keeps (command.MarkStems x) s d text t e h = marks s d text t e (mark_refusal s x) x h
reply_keeps (command.Approve x) s d text t e h = report s d text t e (approve_text s x) h
reply_keeps (command.Words x) s d text t e h = words s d text t e x h
reply_keeps command.Changes s d text t e h = report s d text t e (changes_text d.marked s) h
reply_keeps (command.FirstChanges x) s d text t e h = report s d text t e (first_changes_text x d.marked s) h
reply_keeps command.Figures s d text t e h = report s d text t e (change_figures_text d.marked s) h
reply_keeps command.Stats s d text t e h = report s d text t e (stats_text s) h
reply_keeps command.Unused s d text t e h = report s d text t e (unused_text s.setting s.words) h
reply_keeps (command.Largest x) s d text t e h = most s d text t e x h
reply_keeps (command.Families x) s d text t e h = report s d text t e (families_reply_text s x) h
reply_keeps (command.Why x) s d text t e h = report s d text t e (why_reply_text s x) h
reply_keeps (command.Integers x) s d text t e h = report s d text t e (integers_reply_text s x) h
reply_keeps (command.Uses x) s d text t e h = report s d text t e (uses_reply_text s x) h
reply_keeps command.Counts s d text t e h = report s d text t e (counts_text s.setting s.words) h
reply_keeps (command.Find x) s d text t e h = report s d text t e (found_text x s) h
reply_keeps (command.Stem x) s d text t e h = report s d text t e (stem_reply_text s x) h
reply_keeps (command.Show x) s d text t e h = definition s d text t e (definition_text s.setting.script x) h
reply_keeps command.Saved s d text t e h = report s d text t e (edit_text None) h
reply_keeps command.NoWords s d text t e (shown, bench, desk) = same d e desk
reply_keeps command.NoFile s d text t e (shown, bench, desk) = same d e desk
reply_keeps (command.Echo x) s d text t e h = report s d text t e (with_line_feed x) h
reply_keeps command.Text s d text t e h = report s d text t e (text_in s d.text) h
reply_keeps command.Places s d text t e h = rows s d text t e IsPlacesText (is_utf8 (text_in s d.text)) (text_in s d.text) h
reply_keeps command.Tokens s d text t e h = rows s d text t e IsTokensText (is_utf8 (text_in s d.text)) (text_in s d.text) h
reply_keeps (command.TokensOf x) s d text t e h = tokens s d text t e (nat_lt max_script (length x)) x h
reply_keeps command.Faults s d text t e h = faults s d text t e d.refused h
reply_keeps (command.FaultsOf x) s d text t e h = tells_faults s d text t e (IsFaultsText x s.setting.script.external) h
reply_keeps command.Hello s d text t e (shown, bench, desk) = same d e desk

-- ---- the laws

pub may_break_stays : MayBreakStays
may_break_stays [] s d [] [] t e (bench, desk) = same d e desk
may_break_stays [] s d [] (reply ∷ replies) t e none = elim none [ ]
may_break_stays [] s d (request ∷ requests) replies t e none = elim none [ ]
may_break_stays (choice ∷ choices) s d [] replies t e none = elim none [ ]
may_break_stays (choice ∷ choices) s d (request ∷ requests) [] t e none = elim none [ ]
may_break_stays (choice ∷ choices) s d (request ∷ requests) (reply ∷ replies) t e (next, is, rest) =
    may_break_stays choices next choice.desk requests replies t e rest
    ∙ reply_keeps (by_work_block choice.file request.line request.block) s d reply next choice.desk is

edits_if_not : (m : Bool) (f : EditFault) (what : Edit) (s t : Contents) → m ≡ false → EditsOrBreaksIf m (Err f) s what t → Edits (Err f) s what t
edits_if_not m f what s t is edits = subst (λ (x : Bool). EditsOrBreaksIf x (Err f) s what t) is edits

replacing_edits : (result : Result (Unit {0}) EditFault) (kind : EditKind) (what : Edit) (after : Option (List ℕ)) (s : Contents) (d : State) (t : Contents) (m : State) → d.may_break ≡ false
    → Replaces result kind what after s d t m → Edits result s what t
replacing_edits (Ok u) kind what after s d t m is (edits, noted) = edits
replacing_edits (Err f) kind what after s d t m is (edits, desk) = edits_if_not d.may_break f what s t is edits

pub whole_scripts_are_edited : WholeScriptsAreEdited
whole_scripts_are_edited bytes s d text t e is (result, (m, replaces, desk), shown) = (result, replacing_edits result OfScript (Whole bytes) (Some bytes) s d t m is replaces, shown)

pub parts_are_edited : PartsAreEdited
parts_are_edited what block s d text t e is (inl (rest, result, m, head, inl (kept, of, replaces), desk, shown)) =
    inl (rest, result, head, replacing_edits result (OfPart what) (Replace what rest) kept s d t m is replaces, shown)
parts_are_edited what block s d text t e is (inl (rest, result, m, head, inr (memory, bench, kept), desk, shown)) =
    inr (shown ∙ ap (λ (r : Result (Unit {0}) EditFault). edit_text (fault_in r)) memory, bench)
parts_are_edited what block s d text t e is (inr (shown, bench, desk)) = inr (shown, bench)

last_edited : (b : Bool) (result : Result (Unit {0}) HistoryFault) (nothing text : List ℕ) (s t : Contents) (kept new : Option (List ℕ)) (from to new_from new_to : List PastEdit)
    → b ≡ false → Turns b result s t kept new from to new_from new_to → text ≡ turn_text nothing result → IsLastEdited nothing from s text t
last_edited b (Ok u) nothing text s t kept new from to new_from new_to is (last, was, edits, moved, kept_is) shown = inr (new_from, last, Ok u, was, edits, shown)
last_edited b (Err turn.Nothing) nothing text s t kept new from to new_from new_to is (none, bench, kept_is, from_is, to_is) shown = inl (none, bench, shown)
last_edited b (Err (turn.Edit f)) nothing text s t kept new from to new_from new_to is (before, last, was, edits, kept_is, from_is, to_is) shown =
    inr (before, last, Err f, was, edits_if_not b f (edit_of last.turn) s t is edits, shown)

pub undoing_is_editing : UndoingIsEditing
undoing_is_editing s d text t e is (result, m, (turns, rest), desk, shown) =
    last_edited d.may_break result _ text s t d.text m.text d.past.earlier d.past.later m.past.earlier m.past.later is turns shown

pub redoing_is_editing : RedoingIsEditing
redoing_is_editing s d text t e is (result, m, (turns, rest), desk, shown) =
    last_edited d.may_break result _ text s t d.text m.text d.past.later d.past.earlier m.past.later m.past.earlier is turns shown

pub words_are_edited : WordsAreEdited
words_are_edited bytes s d text t e is (Ok u, (no_fault, edits), shown, desk) = inl (Ok u, edits, shown)
words_are_edited bytes s d text t e is (Err (load.Open f), (no_fault, edits), shown, desk) =
    inl (Err f, edits_if_not d.may_break f (bench.Words (file_words bytes)) s t is edits, shown)
words_are_edited bytes s d text t e is (Err (load.Input serve.OutOfMemory), bench, shown, desk) = inr (serve.OutOfMemory, shown, bench)
words_are_edited bytes s d text t e is (Err (load.Input serve.Read), (fault, bench), shown, desk) = inr (serve.Read, shown, bench)
words_are_edited bytes s d text t e is (Err (load.Input serve.Write), (fault, bench), shown, desk) = inr (serve.Write, shown, bench)
words_are_edited bytes s d text t e is (Err (load.Input serve.Cut), (fault, bench), shown, desk) = inr (serve.Cut, shown, bench)
words_are_edited bytes s d text t e is (Err (load.Input serve.LengthsDiffer), (fault, bench), shown, desk) = inr (serve.LengthsDiffer, shown, bench)
words_are_edited bytes s d text t e is (Err (load.Input serve.NotText), (fault, bench), shown, desk) = inr (serve.NotText, shown, bench)
words_are_edited bytes s d text t e is (Err (load.Input serve.LineTooLong), (fault, bench), shown, desk) = inr (serve.LineTooLong, shown, bench)
words_are_edited bytes s d text t e is (Err (load.Script f), none, shown, desk) = elim none [ ]

pub sessions_reply : SessionsReply
sessions_reply k s d text t e is (reply, noted) = subst (λ (m : Bool). IsSessionReply m k s text t) is reply

pub work_begins_unbroken : WorkBeginsUnbroken
work_begins_unbroken left held reads writes paths prompt lines new_lines writer new_writer status none (inl ends) = inl ends
work_begins_unbroken left held reads writes paths prompt lines new_lines writer new_writer status none
    (inr (bytes, s, served, opened, (t, e, works, reasons), status_is)) =
    inr (s, first_desk (is_some paths.stop) s bytes, t, e, served, works, ap is_some none)
