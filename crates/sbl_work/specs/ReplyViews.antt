-- A command and a reply, without memory addresses.
use Rattle.std.specs.Prelude.{◌≡◌, ◌⊎◌, ◌<◌, ◌≤◌, ℕ, Bool, true, false, List, Option, Result, Ok, Err, codes, length}
use Rattle.std.specs.Option.{is_some, option_map}
use Rattle.std.specs.Str.{bytes_eq, chars, is_utf8}
use Rattle.std.specs.Borrow.{Bor}
use Rattle.std.specs.declared.alloc.Global.{Global}
use Rattle.std.specs.declared.vec.Vec.{Vec}
use Rattle.sbl_bench.specs.Contents.{Contents}
use Rattle.sbl_bench.specs.KeptRuns.{KeptRuns, contents_of}
use Rattle.sbl_bench.specs.declared.fault.EditFault.{EditFault}
use Rattle.sbl_bench.specs.declared.fault.EditFault.TheVariants as edit
use Rattle.sbl_ast.specs.NamedParts.{Part'}
use Rattle.sbl_reports.specs.Block.{max_script}
use Rattle.sbl_sessions.specs.CommandViews.{IsReply, KeepsLine}
use Rattle.sbl_sessions.specs.Commands as session
use Rattle.sbl_sessions.specs.Commands.{line_command}
use Rattle.sbl_sessions.specs.Requests.{asks_block}
use Rattle.sbl_sessions.specs.declared.replies.Reply.{Reply}
use Rattle.sbl_text.specs.declared.fault.ScriptFault.TheVariants as script
use Rattle.sbl_work.specs.Commands as command
use Rattle.sbl_work.specs.Commands.{WorkCommand, alone_command, append_command, count_in, families_in_file, find_command, is_replace, uses_command}
use Rattle.sbl_work.specs.Commands.{first_changes_command, with_file}
use Rattle.sbl_history.specs.Desks.{State, state_of}
use Rattle.sbl_history.specs.declared.desk.Desk.{Desk}
use Rattle.sbl_history.specs.Editing.{ReplacesPart}
use Rattle.sbl_history.specs.Refused.{PartText}
use Rattle.sbl_work.specs.FaultReplies.{kept_after}
use Rattle.sbl_source_map.specs.Heads.{IsWithoutHead}
use Rattle.sbl_reports.specs.Families.{families_in, families_text}
use Rattle.sbl_work.specs.Replies.{IsRowsReply, IsSessionReply, IsWorkReply, TellsReport}
use Rattle.sbl_work.specs.declared.requests.BlockRequest.{BlockRequest}
use Rattle.sbl_work.specs.declared.requests.BlockRequest.TheVariants as blocks
use Rattle.sbl_work.specs.declared.requests.Request.{Request}
use Rattle.sbl_work.specs.declared.requests.Request.TheVariants as variants

abbrev pub view_file : Option (Bor (List ℕ)) → Option (List ℕ)
view_file file = option_map (λ bytes. bytes.now) file

-- the command of a line, by what the line asks for and the bytes of its file
abbrev pub view_request : Option (List ℕ) → List ℕ → Request → WorkCommand
view_request file line variants.Comment = command.Nothing
view_request file line variants.Reload = with_file command.EditWhole file
view_request file line variants.Undo = command.Undo
view_request file line variants.Redo = command.Redo
view_request file line variants.History = command.History
view_request file line variants.Mark = command.Mark
view_request file line (variants.MarkStems path) = with_file command.MarkStems file
view_request file line (variants.Approve path) = command.Approve (is_some file)
view_request file line variants.Words = with_file command.Words file
view_request file line variants.Changes = command.Changes
view_request file line (variants.FirstChanges number) = first_changes_command number.now
view_request file line variants.Figures = command.Figures
view_request file line variants.Stats = command.Stats
view_request file line variants.Unused = command.Unused
view_request file line (variants.Largest number) = command.Largest (count_in number.now)
view_request file line (variants.Families path) = with_file families_in_file file
view_request file line (variants.Replace path) = with_file command.EditWhole file
view_request file line (variants.Why word) = command.Why (chars word.now)
view_request file line (variants.Integers word) = command.Integers (chars word.now)
view_request file line (variants.Uses text) = uses_command text.now
view_request file line variants.Counts = command.Counts
view_request file line (variants.Find text) = find_command text.now
view_request file line (variants.Stem text) = command.Stem (chars text.now)
view_request file line (variants.Show name) = command.Show name.now
view_request file line (variants.Save path) = with_file (λ bytes. command.Saved) file
view_request file line (variants.Append path) = with_file append_command file
view_request file line (variants.Echo text) = command.Echo text.now
view_request file line variants.Help = command.Nothing
view_request file line variants.Text = command.Text
view_request file line variants.Places = command.Places
view_request file line variants.Tokens = command.Tokens
view_request file line (variants.TokensOf path) = with_file command.TokensOf file
view_request file line variants.Faults = command.Faults
view_request file line (variants.FaultsOf path) = with_file command.FaultsOf file
view_request file line variants.Hello = command.Hello
view_request file line variants.Session = command.Session (line_command line)

-- the reply to a command, and the bench and the desk after it
abbrev pub IsWorkAnswer : Contents → State → WorkCommand → Reply → Contents → State → Type 0
IsWorkAnswer s d c r t e = (text : List ℕ) × IsReply r text × IsWorkReply s d c text t e

-- the same of a command of a session
abbrev pub IsSessionAnswer : Bool → Contents → session.Command → Reply → Contents → Type 0
IsSessionAnswer may_break s c r t = (text : List ℕ) × IsReply r text × IsSessionReply may_break c s text t

-- the same over a bench and a desk
abbrev pub Answers : KeptRuns → Desk → WorkCommand → Reply → KeptRuns → Desk → Type 0
Answers bench desk c r new_bench new_desk = IsWorkAnswer (contents_of bench) (state_of desk) c r (contents_of new_bench) (state_of new_desk)

-- the reply to a line without a block, for some bytes of its file, if it needs one
abbrev pub IsFileAnswer : Contents → State → List ℕ → Reply → Contents → State → Type 0
IsFileAnswer s d line r t e = (file : Option (List ℕ)) × IsWorkAnswer s d (alone_command file line) r t e

-- the rows that a text has, or that the bytes are no text, or an allocation failed; nothing is changed
abbrev pub IsRowsAnswer : (List ℕ → List ℕ → Type 0) → List ℕ → Contents → State → Reply → Type 0
IsRowsAnswer HasRows bytes s d r = (text : List ℕ) × IsReply r text × IsRowsReply HasRows bytes s d text s d

-- ---- a line and its block

-- what a line asks for with its block
abbrev pub FindsBlock : BlockRequest → List ℕ → Type 0
FindsBlock (blocks.Part kept) line = (asks_block line ≡ true) × KeepsLine kept line
FindsBlock blocks.Whole line = (asks_block line ≡ false) × (is_replace line ≡ true)
FindsBlock blocks.Families line = (asks_block line ≡ false) × (is_replace line ≡ false) × (bytes_eq line (codes "families") ≡ true)

-- the report of the families of a text, or an allocation for it fails; nothing is changed
abbrev pub IsFamiliesAnswer : Contents → State → List ℕ → Reply → Type 0
IsFamiliesAnswer s d text r = (report : List ℕ) × IsReply r report × TellsReport (families_text s (families_in (chars text))) s d report s d

-- the bytes of a text; or it is too long for a script, or an allocation failed
abbrev pub NamesText : Result (Vec ℕ Global) EditFault → List ℕ → Type 0
NamesText (Ok v) text = (v.items ≡ text) × (length text ≤ max_script)
NamesText (Err f) text = ((f ≡ edit.Script script.ScriptTooLong) × (max_script < length text)) ⊎ (f ≡ edit.OutOfMemory)

-- a part of the script is replaced by a text, which is without the beginning of a definition; or an allocation failed
abbrev pub IsTextResult : Result (Unit {0}) EditFault → Part' → List ℕ → Contents → State → Contents → State → Type 0
IsTextResult result what text s d t e =
    ((rest : List ℕ) × IsWithoutHead what text rest × ReplacesPart result what rest s d t e)
    ⊎ ((result ≡ Err edit.OutOfMemory) × (t ≡ s) × (e ≡ d))

-- the same for bytes, which may be no text
abbrev pub IsBytesResult : Bool → Result (Unit {0}) EditFault → Part' → List ℕ → Contents → State → Contents → State → Type 0
IsBytesResult true result what bytes s d t e = IsTextResult result what bytes s d t e
IsBytesResult false result what bytes s d t e = (result ≡ Err (edit.Script script.NotUtf8)) × (t ≡ s) × (e ≡ d)

abbrev pub IsPartResult : Result (Unit {0}) EditFault → Part' → List ℕ → Contents → State → Contents → State → Type 0
IsPartResult result what bytes s d t e = IsBytesResult (is_utf8 bytes) result what bytes s d t e

-- the same, and what was typed is kept if it has a fault; or an allocation failed
abbrev pub IsKeptPart : Result (Unit {0}) EditFault → Part' → List ℕ → Contents → State → Contents → State → Type 0
IsKeptPart result what bytes s d t e =
    ((mid : State) × IsPartResult result what bytes s d t mid × (e ≡ kept_after result (PartText what bytes) mid))
    ⊎ ((result ≡ Err edit.OutOfMemory) × (t ≡ s) × (e ≡ d))
