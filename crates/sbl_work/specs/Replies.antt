-- The replies of work: the text of the reply to a command, and the bench and the desk after it.
use Rattle.std.specs.Prelude.{◌≡◌, ◌⊎◌, ℕ, Bool, true, false, ◌==◌, nat_lt, List, [], codes, length, if◌then◌else◌}
use Rattle.std.specs.Prelude.{Option, Some, None, Result, Ok, Err}
use Rattle.std.specs.Option.{unwrap_or}
use Rattle.std.specs.Str.{chars, is_utf8}
use Rattle.sbl_bench.specs.Contents.{Contents, rows_now}
use Rattle.sbl_bench.specs.Edits as bench
use Rattle.sbl_bench.specs.Edits.{Edits, Whole}
use Rattle.sbl_bench.specs.Whys.{refusal_of_why}
use Rattle.sbl_bench.specs.declared.fault.EditFault.{EditFault}
use Rattle.sbl_bench.specs.declared.fault.EditFault.TheVariants as edit
use Rattle.sbl_text.specs.declared.fault.ScriptFault.{ScriptFault}
use Rattle.sbl_text.specs.declared.fault.ScriptFault.TheVariants as script
use Rattle.sbl_reports.specs.Block.{max_script}
use Rattle.sbl_ast.specs.NamedParts.{Part'}
use Rattle.sbl_sessions.specs.Answers.{edit_text, with_line_feed}
use Rattle.sbl_sessions.specs.CommandViews.{IsTextAnswer, IsTextBreak}
use Rattle.sbl_sessions.specs.Commands.{Command}
use Rattle.sbl_sessions.specs.EditFaults.{fault_in}
use Rattle.sbl_uses.specs.Unused as unused
use Rattle.sbl_uses.specs.Counts.{counts_text}
use Rattle.sbl_explain.specs.Integers as integers
use Rattle.sbl_uses.specs.Uses.{Question, uses_text}
use Rattle.sbl_uses.specs.declared.uses.UsesFault.{UsesFault}
use Rattle.sbl_uses.specs.declared.uses.UsesFault.TheVariants as uses
use Rattle.sbl_explain.specs.WhyRows as rows
use Rattle.sbl_work.specs.Commands.{WorkCommand, Nothing, Session, EditPart, EditWhole, Undo, Redo, Mark, Changes, Stats}
use Rattle.sbl_work.specs.Commands.{Unused, Largest, Families, Why, Integers, Uses, Counts, Find, Stem, Show, Saved, NoWords, NoFile, Echo}
use Rattle.sbl_work.specs.Commands.{MarkStems, Approve, Words, Text, Places, Tokens, TokensOf, Hello, History}
use Rattle.sbl_work.specs.Commands.{NoPart, Faults, FaultsOf, FirstChanges, Figures}
use Rattle.sbl_work.specs.FaultReplies.{IsFaultsText, IsRefusedText, kept_after, kept_after_turn, refused_part, refused_whole}
use Rattle.sbl_input.specs.FileWords.{file_lines, file_words, first_line_fault}
use Rattle.sbl_io.specs.LinesOf.{lines_of}
use Rattle.sbl_input.specs.declared.faults.LoadFault.{LoadFault}
use Rattle.sbl_input.specs.declared.faults.LoadFault.TheVariants as load
use Rattle.sbl_io.specs.declared.faults.ServeFault.TheVariants as serve
use Rattle.sbl_rows.specs.Rows.{Row}
use Rattle.sbl_rows.specs.StemRows.{rows_with}
use Rattle.sbl_source_map.specs.Definitions.{definition_text}
use Rattle.sbl_history.specs.Desks.{Redoes, State, Undoes, text_in}
use Rattle.sbl_history.specs.Editing.{IsLimitNoted, Replaces, ReplacesPart}
use Rattle.sbl_history.specs.History.{OfScript}
use Rattle.sbl_history.specs.Listing.{history_text}
use Rattle.sbl_history.specs.MayBreak.{EditsOrBreaksIf}
use Rattle.sbl_history.specs.Refused.{RefusedText}
use Rattle.sbl_reports.specs.Families.{families_in, families_text}
use Rattle.sbl_source_map.specs.Heads.{IsWithoutHead}
use Rattle.sbl_text_rows.specs.PlaceRows.{IsPlacesText}
use Rattle.sbl_text_rows.specs.TokenRows.{IsTokensText}
use Rattle.sbl_reports.specs.Lookups.{found_text, stem_text}
use Rattle.sbl_history.specs.ChangeReports.{change_figures_text, changes_text, first_changes_text}
use Rattle.sbl_reports.specs.Reports.{largest_text, stats_text}
use Rattle.sbl_reports.specs.StemLines.{are_text, have_lines, stems_in}
use Rattle.sbl_history.specs.declared.history.HistoryFault.{HistoryFault}
use Rattle.sbl_history.specs.declared.history.HistoryFault.TheVariants as fault

-- ---- texts

-- the reply to what undoes or redoes an edit; the first text if there is no such edit
abbrev pub turn_text : List ℕ → Result (Unit {0}) HistoryFault → List ℕ
turn_text nothing (Ok u) = edit_text None
turn_text nothing (Err fault.Nothing) = nothing
turn_text nothing (Err (fault.Edit f)) = edit_text (Some f)

abbrev pub undo_text : Result (Unit {0}) HistoryFault → List ℕ
undo_text result = turn_text (with_line_feed (codes "no 54 NothingToUndo")) result

abbrev pub redo_text : Result (Unit {0}) HistoryFault → List ℕ
redo_text result = turn_text (with_line_feed (codes "no 55 NothingToRedo")) result

abbrev pub bad_number_text : List ℕ
bad_number_text = with_line_feed (codes "no 56 BadNumber")

abbrev pub no_file_text : List ℕ
no_file_text = with_line_feed (codes "no 57 NoFile")

abbrev pub no_string_text : List ℕ
no_string_text = with_line_feed (codes "no 58 NoString")

abbrev pub no_class_text : List ℕ
no_class_text = with_line_feed (codes "no 59 NoClass")

abbrev pub refused_text : List ℕ
refused_text = with_line_feed (codes "no 67 Refused")

abbrev pub no_words_text : List ℕ
no_words_text = with_line_feed (codes "no 69 NothingToAppend")

abbrev pub lengths_differ_text : List ℕ
lengths_differ_text = with_line_feed (codes "no 74 LengthsDiffer")

abbrev pub not_text_text : List ℕ
not_text_text = with_line_feed (codes "no 75 NotText")

-- the reply to families in these bytes
abbrev pub families_reply_text : Contents → List ℕ → List ℕ
families_reply_text s bytes = if is_utf8 bytes then families_text s (families_in (chars bytes)) else not_text_text

-- why a file of stems sets no mark: a line of it is not UTF-8, or there is not one line for each word
abbrev pub mark_refusal : Contents → List ℕ → Option (List ℕ)
mark_refusal s bytes =
    if are_text (lines_of bytes) then (if length (lines_of bytes) == length s.words then None else Some lengths_differ_text)
    else Some not_text_text

-- the reply to what writes the stems to a file: whether they were written, unless a run is refused or a stem is not one line
abbrev pub approve_text : Contents → Bool → List ℕ
approve_text s is_written = if have_lines (rows_now s) then (if is_written then edit_text None else no_file_text) else refused_text

-- the rows, or the fault of the word
abbrev pub rows_or_fault : Option EditFault → List ℕ → List ℕ
rows_or_fault None text = text
rows_or_fault (Some f) text = edit_text (Some f)

abbrev pub why_reply_text : Contents → List ℕ → List ℕ
why_reply_text s word = rows_or_fault (refusal_of_why word) (rows.why_text s.setting word)

abbrev pub integers_reply_text : Contents → List ℕ → List ℕ
integers_reply_text s word = rows_or_fault (refusal_of_why word) (integers.integers_text s.setting word)

-- the rows of the words that use a part of the script, or why there is no such part
abbrev pub users_or_fault : Result (List ℕ) UsesFault → List ℕ
users_or_fault (Ok text) = text
users_or_fault (Err uses.NoRoutine) = edit_text (Some edit.NoRoutine)
users_or_fault (Err uses.NoAmong) = edit_text (Some edit.NoAmong)
users_or_fault (Err uses.NoString) = no_string_text
users_or_fault (Err uses.OutOfMemory) = edit_text (Some edit.OutOfMemory)

abbrev pub uses_reply_text : Contents → Question → List ℕ
uses_reply_text s q = users_or_fault (uses_text s.setting s.words q)

abbrev pub stem_reply_text : Contents → List ℕ → List ℕ
stem_reply_text s stem = unwrap_or (stem_text stem s) no_class_text

-- ---- replies

-- this is written, and nothing is changed
abbrev pub TellsAlone : List ℕ → Contents → State → List ℕ → Contents → State → Type 0
TellsAlone expected s d text t e = (text ≡ expected) × (t ≡ s) × (e ≡ d)

-- an allocation fails, and nothing is changed
abbrev pub TellsMemory : Contents → State → List ℕ → Contents → State → Type 0
TellsMemory s d text t e = TellsAlone (edit_text (Some edit.OutOfMemory)) s d text t e

-- a report is written whole, or an allocation for it fails
abbrev pub TellsReport : List ℕ → Contents → State → List ℕ → Contents → State → Type 0
TellsReport report s d text t e = TellsAlone report s d text t e ⊎ TellsMemory s d text t e

-- these rows become those at the mark, or an allocation fails
abbrev pub SetsMark : List Row → Contents → State → List ℕ → Contents → State → Type 0
SetsMark rows s d text t e = ((text ≡ edit_text None) × (t ≡ s) × (e ≡ record d { marked = rows })) ⊎ TellsMemory s d text t e

-- the mark becomes the words with the stems in these bytes, unless they are refused
abbrev pub IsMarkReply : Option (List ℕ) → List ℕ → Contents → State → List ℕ → Contents → State → Type 0
IsMarkReply None bytes s d text t e = SetsMark (rows_with s.words (stems_in bytes)) s d text t e
IsMarkReply (Some refusal) bytes s d text t e = TellsReport refusal s d text t e

-- The words in these bytes replace the vocabulary; or a line is no word, the bench refuses the words, that is broken off, if it may
-- be, or an allocation fails.
abbrev pub RereadsWords : Bool → Result (Unit {0}) LoadFault → List ℕ → Contents → Contents → Type 0
RereadsWords may_break (Ok u) bytes s t = (first_line_fault (file_lines bytes) ≡ None) × Edits (Ok u) s (bench.Words (file_words bytes)) t
RereadsWords may_break (Err (load.Open f)) bytes s t =
    (first_line_fault (file_lines bytes) ≡ None) × EditsOrBreaksIf may_break (Err f) s (bench.Words (file_words bytes)) t
RereadsWords may_break (Err (load.Input serve.OutOfMemory)) bytes s t = t ≡ s
RereadsWords may_break (Err (load.Input f)) bytes s t = (first_line_fault (file_lines bytes) ≡ Some f) × (t ≡ s)
RereadsWords may_break (Err (load.Script f)) bytes s t = ⊥

-- a line that is longer than lines may be is a word that is too long
abbrev pub words_text : Result (Unit {0}) LoadFault → List ℕ
words_text (Ok u) = edit_text None
words_text (Err (load.Open f)) = edit_text (Some f)
words_text (Err (load.Input serve.NotText)) = not_text_text
words_text (Err (load.Input serve.LineTooLong)) = edit_text (Some edit.WordTooLong)
words_text (Err f) = edit_text (Some edit.OutOfMemory)

abbrev pub IsWordsReply : List ℕ → Contents → State → List ℕ → Contents → State → Type 0
IsWordsReply bytes s d text t e =
    (result : Result (Unit {0}) LoadFault) × RereadsWords d.may_break result bytes s t × (text ≡ words_text result) × (e ≡ d)

-- these bytes replace the whole script, and become its text
abbrev pub ReplacesWhole : Result (Unit {0}) EditFault → List ℕ → Contents → State → Contents → State → Type 0
ReplacesWhole result bytes s d t e = Replaces result OfScript (Whole bytes) (Some bytes) s d t e

-- the same, and the bytes are kept if they have a fault
abbrev pub ReplacesKept : Result (Unit {0}) EditFault → List ℕ → Contents → State → Contents → State → Type 0
ReplacesKept result bytes s d t e = (mid : State) × ReplacesWhole result bytes s d t mid × (e ≡ kept_after result (refused_whole bytes) mid)

abbrev pub IsWholeReply : List ℕ → Contents → State → List ℕ → Contents → State → Type 0
IsWholeReply bytes s d text t e =
    (result : Result (Unit {0}) EditFault) × ReplacesKept result bytes s d t e × (text ≡ edit_text (fault_in result))

-- A part of the script is replaced by this text, without the beginning of a definition. The text is kept if it has a fault.
abbrev pub IsPartReply : Part' → List ℕ → Contents → State → List ℕ → Contents → State → Type 0
IsPartReply what block s d text t e =
    (rest : List ℕ) × (result : Result (Unit {0}) EditFault) × (mid : State) × IsWithoutHead what block rest
    × ReplacesPart result what rest s d t mid × (e ≡ kept_after result (refused_part what block) mid) × (text ≡ edit_text (fault_in result))

-- an edit is undone or redone; then no refused text is kept
abbrev pub IsTurnReply : (Result (Unit {0}) HistoryFault → Contents → State → Contents → State → Type 0)
    → (Result (Unit {0}) HistoryFault → List ℕ) → Contents → State → List ℕ → Contents → State → Type 0
IsTurnReply Turns turn_reply s d text t e =
    (result : Result (Unit {0}) HistoryFault) × (mid : State) × Turns result s d t mid × (e ≡ kept_after_turn result mid) × (text ≡ turn_reply result)

-- bytes for a part are no text, and are kept
abbrev pub IsNoPartReply : Part' → List ℕ → ScriptFault → Contents → State → List ℕ → Contents → State → Type 0
IsNoPartReply what bytes f s d text t e =
    (text ≡ edit_text (Some (edit.Script f))) × (t ≡ s) × (e ≡ record d { refused = Some (refused_part what bytes f) })

-- the rows of all faults of a text; or an allocation fails
abbrev pub TellsFaults : (List ℕ → Type 0) → Contents → State → List ℕ → Contents → State → Type 0
TellsFaults AreRows s d text t e = (AreRows text × (t ≡ s) × (e ≡ d)) ⊎ TellsMemory s d text t e

-- the faults of the text that was refused last; no rows if none is kept
abbrev pub IsFaultsReply : Option RefusedText → Contents → State → List ℕ → Contents → State → Type 0
IsFaultsReply None s d text t e = TellsAlone [] s d text t e
IsFaultsReply (Some refused) s d text t e = TellsFaults (IsRefusedText s refused) s d text t e

abbrev pub IsDefinitionReply : Option (List ℕ) → Contents → State → List ℕ → Contents → State → Type 0
IsDefinitionReply None s d text t e = TellsAlone (edit_text (Some edit.NoRoutine)) s d text t e
IsDefinitionReply (Some line) s d text t e = TellsReport line s d text t e

abbrev pub IsLargestReply : Option ℕ → Contents → State → List ℕ → Contents → State → Type 0
IsLargestReply None s d text t e = TellsAlone bad_number_text s d text t e
IsLargestReply (Some n) s d text t e = TellsReport (largest_text n s) s d text t e

-- the rows that the bytes have, if they are a text; or an allocation fails
abbrev pub TellsRows : (List ℕ → List ℕ → Type 0) → Bool → List ℕ → Contents → State → List ℕ → Contents → State → Type 0
TellsRows HasRows true bytes s d text t e = (HasRows bytes text × (t ≡ s) × (e ≡ d)) ⊎ TellsMemory s d text t e
TellsRows HasRows false bytes s d text t e = TellsReport not_text_text s d text t e

abbrev pub IsRowsReply : (List ℕ → List ℕ → Type 0) → List ℕ → Contents → State → List ℕ → Contents → State → Type 0
IsRowsReply HasRows bytes s d text t e = TellsRows HasRows (is_utf8 bytes) bytes s d text t e

-- the tokens of the bytes of a file, unless there are more than a script may have
abbrev pub TellsTokens : Bool → List ℕ → Contents → State → List ℕ → Contents → State → Type 0
TellsTokens true bytes s d text t e = TellsAlone (edit_text (Some (edit.Script script.ScriptTooLong))) s d text t e
TellsTokens false bytes s d text t e = IsRowsReply IsTokensText bytes s d text t e

abbrev pub IsFileTokensReply : List ℕ → Contents → State → List ℕ → Contents → State → Type 0
IsFileTokensReply bytes s d text t e = TellsTokens (nat_lt max_script (length bytes)) bytes s d text t e

abbrev pub hello_text : List ℕ
hello_text = with_line_feed (codes "voltizug,0.2.0,rows,2")

-- the reply to a command of a session, and the bench after it; a limit may be broken off if this is true
abbrev pub IsSessionReply : Bool → Command → Contents → List ℕ → Contents → Type 0
IsSessionReply true command s text t = IsTextAnswer s command text t ⊎ IsTextBreak s command text t
IsSessionReply false command s text t = IsTextAnswer s command text t

-- The reply to a command. A file that is to be written may need memory for its text.
abbrev pub IsWorkReply : Contents → State → WorkCommand → List ℕ → Contents → State → Type 0
IsWorkReply s d Nothing text t e = TellsAlone [] s d text t e
IsWorkReply s d (Session command) text t e = IsSessionReply d.may_break command s text t × IsLimitNoted s t d e
IsWorkReply s d (EditPart what block) text t e = IsPartReply what block s d text t e ⊎ TellsMemory s d text t e
IsWorkReply s d (NoPart what bytes f) text t e = IsNoPartReply what bytes f s d text t e ⊎ TellsMemory s d text t e
IsWorkReply s d (EditWhole bytes) text t e = IsWholeReply bytes s d text t e
IsWorkReply s d Undo text t e = IsTurnReply Undoes undo_text s d text t e
IsWorkReply s d Redo text t e = IsTurnReply Redoes redo_text s d text t e
IsWorkReply s d History text t e = TellsReport (history_text d.past) s d text t e
IsWorkReply s d Mark text t e = SetsMark (rows_now s) s d text t e
IsWorkReply s d (MarkStems bytes) text t e = IsMarkReply (mark_refusal s bytes) bytes s d text t e
IsWorkReply s d (Approve is_written) text t e = TellsReport (approve_text s is_written) s d text t e
IsWorkReply s d (Words bytes) text t e = IsWordsReply bytes s d text t e
IsWorkReply s d Changes text t e = TellsReport (changes_text d.marked s) s d text t e
IsWorkReply s d (FirstChanges n) text t e = TellsReport (first_changes_text n d.marked s) s d text t e
IsWorkReply s d Figures text t e = TellsReport (change_figures_text d.marked s) s d text t e
IsWorkReply s d Stats text t e = TellsReport (stats_text s) s d text t e
IsWorkReply s d Unused text t e = TellsReport (unused.unused_text s.setting s.words) s d text t e
IsWorkReply s d (Largest number) text t e = IsLargestReply number s d text t e
IsWorkReply s d (Families bytes) text t e = TellsReport (families_reply_text s bytes) s d text t e
IsWorkReply s d (Why word) text t e = TellsReport (why_reply_text s word) s d text t e
IsWorkReply s d (Integers word) text t e = TellsReport (integers_reply_text s word) s d text t e
IsWorkReply s d (Uses question) text t e = TellsReport (uses_reply_text s question) s d text t e
IsWorkReply s d Counts text t e = TellsReport (counts_text s.setting s.words) s d text t e
IsWorkReply s d (Find part) text t e = TellsReport (found_text part s) s d text t e
IsWorkReply s d (Stem stem) text t e = TellsReport (stem_reply_text s stem) s d text t e
IsWorkReply s d (Show name) text t e = IsDefinitionReply (definition_text s.setting.script name) s d text t e
IsWorkReply s d Saved text t e = TellsReport (edit_text None) s d text t e
IsWorkReply s d NoWords text t e = TellsAlone no_words_text s d text t e
IsWorkReply s d NoFile text t e = TellsAlone no_file_text s d text t e
IsWorkReply s d (Echo echoed) text t e = TellsReport (with_line_feed echoed) s d text t e
IsWorkReply s d Text text t e = TellsReport (text_in s d.text) s d text t e
IsWorkReply s d Places text t e = IsRowsReply IsPlacesText (text_in s d.text) s d text t e
IsWorkReply s d Tokens text t e = IsRowsReply IsTokensText (text_in s d.text) s d text t e
IsWorkReply s d (TokensOf bytes) text t e = IsFileTokensReply bytes s d text t e
IsWorkReply s d Faults text t e = IsFaultsReply d.refused s d text t e
IsWorkReply s d (FaultsOf bytes) text t e = TellsFaults (IsFaultsText bytes s.setting.script.external) s d text t e
IsWorkReply s d Hello text t e = TellsAlone hello_text s d text t e
