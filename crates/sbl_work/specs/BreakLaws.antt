-- No edit is broken off unless `--stop` names a file.
use Rattle.std.specs.Prelude.{◌≡◌, ◌⊎◌, ◌++◌, ℕ, false, List, [], ◌∷◌, Option, Some, None, Result, Err}
use Rattle.sbl_bench.specs.Contents.{Contents}
use Rattle.sbl_bench.specs.Edits as bench
use Rattle.sbl_bench.specs.Edits.{Edits, Replace, Whole}
use Rattle.sbl_bench.specs.declared.fault.EditFault.{EditFault}
use Rattle.sbl_bench.specs.declared.fault.EditFault.TheVariants as edit
use Rattle.sbl_history.specs.Desks.{State}
use Rattle.sbl_history.specs.History.{PastEdit, edit_of}
use Rattle.sbl_history.specs.declared.history.HistoryFault.TheVariants as history
use Rattle.sbl_input.specs.FileWords.{file_words}
use Rattle.sbl_input.specs.declared.faults.LoadFault.TheVariants as load
use Rattle.sbl_io.specs.Devices.{Tally}
use Rattle.sbl_io.specs.HeldInput.{input_of}
use Rattle.sbl_io.specs.declared.faults.ServeFault.{ServeFault}
use Rattle.sbl_io.specs.declared.lines.Lines.{Lines}
use Rattle.sbl_ast.specs.NamedParts.{Part'}
use Rattle.sbl_sessions.specs.Answers.{edit_text}
use Rattle.sbl_sessions.specs.CommandViews.{IsTextAnswer}
use Rattle.sbl_sessions.specs.Commands.{Command}
use Rattle.sbl_sessions.specs.EditFaults.{fault_in}
use Rattle.sbl_sessions.specs.Requests.{Request}
use Rattle.sbl_source_map.specs.Heads.{IsWithoutHead}
use Rattle.sbl_work.specs.Commands.{EditPart, EditWhole, Redo, Session, Undo, Words}
use Rattle.sbl_work.specs.Replies.{IsWorkReply, redo_text, undo_text, words_text}
use Rattle.sbl_work.specs.Serving.{AreReplies, Choice, IsWork}
use Rattle.sbl_work.specs.WholeWork.{IsUntouched, WorksOver}
use Rattle.sbl_work.specs.declared.files.Paths.{Paths}

-- no request changes whether edits can be broken off
abbrev pub MayBreakStays : Type 0
MayBreakStays =
    (choices : List Choice) (s : Contents) (d : State) (requests : List Request) (replies : List (List ℕ)) (t : Contents) (e : State)
    → AreReplies choices s d requests replies t e → e.may_break ≡ d.may_break

-- ---- the replies if edits cannot be broken off

-- a whole script is replaced as the bench replaces it
abbrev pub WholeScriptsAreEdited : Type 0
WholeScriptsAreEdited =
    (bytes : List ℕ) (s : Contents) (d : State) (text : List ℕ) (t : Contents) (e : State) → d.may_break ≡ false
    → IsWorkReply s d (EditWhole bytes) text t e
    → (result : Result (Unit {0}) EditFault) × Edits result s (Whole bytes) t × (text ≡ edit_text (fault_in result))

-- the bench replaces a part by the block without its head
abbrev pub IsPartEdited : Part' → List ℕ → Contents → List ℕ → Contents → Type 0
IsPartEdited what block s text t =
    (rest : List ℕ) × (result : Result (Unit {0}) EditFault) × IsWithoutHead what block rest × Edits result s (Replace what rest) t
    × (text ≡ edit_text (fault_in result))

-- a part is replaced as the bench replaces it; or an allocation fails, and nothing is changed
abbrev pub PartsAreEdited : Type 0
PartsAreEdited =
    (what : Part') (block : List ℕ) (s : Contents) (d : State) (text : List ℕ) (t : Contents) (e : State) → d.may_break ≡ false
    → IsWorkReply s d (EditPart what block) text t e
    → IsPartEdited what block s text t ⊎ ((text ≡ edit_text (Some edit.OutOfMemory)) × (t ≡ s))

-- the bench makes the turn of the last of these edits; or there is none, this is the reply, and nothing is changed
abbrev pub IsLastEdited : List ℕ → List PastEdit → Contents → List ℕ → Contents → Type 0
IsLastEdited nothing edits s text t =
    ((edits ≡ []) × (t ≡ s) × (text ≡ nothing))
    ⊎ ((rest : List PastEdit) × (last : PastEdit) × (result : Result (Unit {0}) EditFault) × (edits ≡ rest ++ last ∷ [])
    × Edits result s (edit_of last.turn) t × (text ≡ edit_text (fault_in result)))

-- undo makes an edit of the bench, or there is none to undo
abbrev pub UndoingIsEditing : Type 0
UndoingIsEditing =
    (s : Contents) (d : State) (text : List ℕ) (t : Contents) (e : State) → d.may_break ≡ false
    → IsWorkReply s d Undo text t e → IsLastEdited (undo_text (Err history.Nothing)) d.past.earlier s text t

-- redo makes an edit of the bench, or there is none to redo
abbrev pub RedoingIsEditing : Type 0
RedoingIsEditing =
    (s : Contents) (d : State) (text : List ℕ) (t : Contents) (e : State) → d.may_break ≡ false
    → IsWorkReply s d Redo text t e → IsLastEdited (redo_text (Err history.Nothing)) d.past.later s text t

-- the bench replaces its words; or a line is no word or an allocation fails, and nothing is changed
abbrev pub WordsAreEdited : Type 0
WordsAreEdited =
    (bytes : List ℕ) (s : Contents) (d : State) (text : List ℕ) (t : Contents) (e : State) → d.may_break ≡ false
    → IsWorkReply s d (Words bytes) text t e
    → ((result : Result (Unit {0}) EditFault) × Edits result s (bench.Words (file_words bytes)) t × (text ≡ edit_text (fault_in result)))
    ⊎ ((f : ServeFault) × (text ≡ words_text (Err (load.Input f))) × (t ≡ s))

-- a command of a session has the session's reply
abbrev pub SessionsReply : Type 0
SessionsReply =
    (command : Command) (s : Contents) (d : State) (text : List ℕ) (t : Contents) (e : State) → d.may_break ≡ false
    → IsWorkReply s d (Session command) text t e → IsTextAnswer s command text t

-- ---- the start

-- If `--stop` names no file, work does not start, or it starts with edits that cannot be broken off. Readers and writers are numbers
-- here.
abbrev pub WorkBeginsUnbroken : Type 0
WorkBeginsUnbroken =
    (left held : ℕ → Option (List ℕ)) (reads writes : ℕ → Tally) (paths : Paths) (prompt : List ℕ) (lines new_lines : Lines ℕ)
    (writer new_writer status : ℕ) → paths.stop ≡ None
    → WorksOver left reads held writes paths prompt lines new_lines writer new_writer status
    → ((status ≡ 1) × IsUntouched (input_of left lines) (input_of left new_lines) (held writer) (held new_writer))
    ⊎ ((s : Contents) × (d : State) × (t : Contents) × (e : State) × (served : Result (Unit {0}) ServeFault)
    × IsWork prompt (input_of left lines) (input_of left new_lines) (held writer) (held new_writer) s d t e served × (d.may_break ≡ false))
