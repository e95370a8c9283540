-- What work writes for the lines of its input, and the bench and the desk after them.
use Rattle.std.specs.Prelude.{◌≡◌, ◌⊎◌, ◌++◌, ◌≤◌, ℕ, Bool, true, false, List, [], ◌∷◌, codes}
use Rattle.std.specs.Prelude.{if◌then◌else◌, length, take, Option, Result, Ok, Err, ⊤}
use Rattle.std.specs.Io.KnownBytes.{Appends, IsAtEnd}
use Rattle.std.specs.List.{All, flat_map}
use Rattle.std.specs.Option.{IfSome, is_some}
use Rattle.std.specs.Str.{bytes_eq}
use Rattle.sbl_bench.specs.Contents.{Contents}
use Rattle.sbl_io.specs.HeldInput.{AllFit, GivesLine, Took, TookWhole}
use Rattle.sbl_io.specs.LinesOf.{max_line}
use Rattle.sbl_io.specs.declared.faults.ServeFault.{ServeFault}
use Rattle.sbl_io.specs.declared.faults.ServeFault.TheVariants as fault
use Rattle.sbl_reports.specs.Block.{BlockLines, Breaks, NoPoint}
use Rattle.sbl_sessions.specs.Requests.{Request, lines_in_all}
use Rattle.sbl_work.specs.Commands.{asks_work_block, by_work_block, quit_line}
use Rattle.sbl_history.specs.Desks.{State}
use Rattle.sbl_work.specs.Replies.{IsWorkReply}

-- ---- requests

-- a line that does not end the work, and its block if it asks for one
abbrev pub IsWorkRequest : Request → Type 0
IsWorkRequest r = (bytes_eq r.line quit_line ≡ false) × (asks_work_block r.line ≡ is_some r.block) × IfSome r.block NoPoint

-- These requests were taken from the input. They are whole, and no line of them is too long.
pub record TookWork (old new : Option (List ℕ)) (requests : List Request) : Type 0 where
  pub each : All IsWorkRequest requests
  pub fit : AllFit (lines_in_all requests)
  pub lines : Took old new (lines_in_all requests)

-- a line that asks for a block, and lines of that block before its line `.`
abbrev pub IsOpenWork : List (List ℕ) → Type 0
IsOpenWork [] = ⊥
IsOpenWork (line ∷ lines) = (asks_work_block line ≡ true) × (length line ≤ max_line) × BlockLines lines

-- the lines of a request that is not whole: none yet, or these
abbrev pub IsBegunWork : List (List ℕ) → Type 0
IsBegunWork [] = ⊤
IsBegunWork (line ∷ lines) = IsOpenWork (line ∷ lines)

-- ---- replies

-- What no definition says of a request: the bytes of the file that it needs, none if that cannot be read or written; and the
-- desk after it, where a definition leaves open which text is kept and if an edit that changes nothing is remembered.
pub record Choice : Type 0 where
  pub file : Option (List ℕ)
  pub desk : State

-- the reply to a request, and the bench after it
abbrev pub IsReplyBy : Choice → Contents → State → Request → List ℕ → Contents → Type 0
IsReplyBy c s d r reply t = IsWorkReply s d (by_work_block c.file r.line r.block) reply t c.desk

-- the replies to these requests in their order, and the bench and the desk after them
abbrev pub AreReplies : List Choice → Contents → State → List Request → List (List ℕ) → Contents → State → Type 0
AreReplies [] s d [] [] t e = (t ≡ s) × (e ≡ d)
AreReplies (choice ∷ choices) s d (request ∷ requests) (reply ∷ replies) t e =
    (next : Contents) × IsReplyBy choice s d request reply next × AreReplies choices next choice.desk requests replies t e
AreReplies choices s d requests replies t e = ⊥

-- the prompt of this face: `> ` at a terminal, nothing in rows
abbrev pub prompt_of : Bool → List ℕ
prompt_of prompts = if prompts then codes "> " else []

-- a reply, and the prompt for the next line
abbrev pub with_prompt : List ℕ → List ℕ → List ℕ
with_prompt prompt reply = reply ++ prompt

-- what is written: the prompt for the first line, and each reply with the prompt for the line after it
abbrev pub dialogue : List ℕ → List (List ℕ) → List ℕ
dialogue prompt replies = prompt ++ flat_map (with_prompt prompt) replies

-- Exactly these requests have their replies: these were written, and the bench and the desk are those after them.
pub record HasWorkReplies (prompt : List ℕ) (s : Contents) (d : State) (requests : List Request)
    (held new_held : Option (List ℕ)) (t : Contents) (e : State) : Type 0 where
  pub choices : List Choice
  pub replies : List (List ℕ)
  pub are : AreReplies choices s d requests replies t e
  pub written : Appends held new_held (dialogue prompt replies)

-- After the replies to these requests, one more was carried out, and a prefix of its reply and of the prompt after it was written.
pub record HasPartOfReply (prompt : List ℕ) (s : Contents) (d : State) (requests : List Request)
    (request : Request) (held new_held : Option (List ℕ)) (t : Contents) (e : State) : Type 0 where
  pub choices : List Choice
  pub replies : List (List ℕ)
  pub between : Contents
  pub desk : State
  pub are : AreReplies choices s d requests replies between desk
  pub choice : Choice
  pub reply : List ℕ
  pub is : IsReplyBy choice between desk request reply t
  pub desk_is : e ≡ choice.desk
  pub count : ℕ
  pub written : Appends held new_held (dialogue prompt replies ++ take count (with_prompt prompt reply))

-- ---- work

-- Requests were taken from the input, and exactly these have their replies.
abbrev pub WorkRepliesToInput : List ℕ → Option (List ℕ) → Option (List ℕ) → Option (List ℕ) → Option (List ℕ)
    → Contents → State → Contents → State → Type 0
WorkRepliesToInput prompt input new_input held new_held s d t e =
    (requests : List Request) × TookWork input new_input requests × HasWorkReplies prompt s d requests held new_held t e

-- nothing was read, and a prefix of the first prompt was written
abbrev pub IsUnprompted : List ℕ → Option (List ℕ) → Option (List ℕ) → Option (List ℕ) → Option (List ℕ)
    → Contents → State → Contents → State → Type 0
IsUnprompted prompt input new_input held new_held s d t e =
    (count : ℕ) × Appends held new_held (take count prompt) × (new_input ≡ input) × (t ≡ s) × (e ≡ d)

-- What work writes for this input with this prompt, the bench and the desk after it, and the input that is left, by the result.
-- Without a fault all requests have their replies, up to the end of input or a line `quit`; what follows that line is left. If
-- the input ends inside a block, a line is too long, or the reader stops, all requests before that have their replies; if the
-- reader stops, a line feed ends the last of them. If the writer stops, the current request is carried out, and a prefix of its
-- reply is written.
abbrev pub IsWork : List ℕ → Option (List ℕ) → Option (List ℕ) → Option (List ℕ) → Option (List ℕ)
    → Contents → State → Contents → State → Result (Unit {0}) ServeFault → Type 0
IsWork prompt input new_input held new_held s d t e (Ok u) =
    (WorkRepliesToInput prompt input new_input held new_held s d t e × IsAtEnd new_input)
    ⊎ ((between : Option (List ℕ)) × WorkRepliesToInput prompt input between held new_held s d t e × GivesLine between new_input quit_line)
IsWork prompt input new_input held new_held s d t e (Err fault.Write) =
    IsUnprompted prompt input new_input held new_held s d t e
    ⊎ ((requests : List Request) × (request : Request) × TookWork input new_input (requests ++ request ∷ [])
    × HasPartOfReply prompt s d requests request held new_held t e)
IsWork prompt input new_input held new_held s d t e (Err fault.Cut) =
    (between : Option (List ℕ)) × WorkRepliesToInput prompt input between held new_held s d t e × Breaks IsOpenWork between new_input fault.Cut
IsWork prompt input new_input held new_held s d t e (Err fault.Read) =
    (between : Option (List ℕ)) × TookWhole input between × WorkRepliesToInput prompt input between held new_held s d t e
    × Breaks IsBegunWork between new_input fault.Read
IsWork prompt input new_input held new_held s d t e (Err f) =
    (between : Option (List ℕ)) × WorkRepliesToInput prompt input between held new_held s d t e × Breaks IsBegunWork between new_input f
