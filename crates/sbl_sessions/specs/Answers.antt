-- The replies of a session to its requests.
use Rattle.std.specs.Prelude.{◌≡◌, ◌+◌, ℕ, List, [], ◌∷◌, ◌++◌, codes, Option, Some, None}
use Rattle.sbl_bench.specs.Contents.{Contents}
use Rattle.sbl_bench.specs.Edits.{Edit, Replace, IsOutOfMemory, IsVerdict}
use Rattle.sbl_bench.specs.Names.{script_name}
use Rattle.sbl_bench.specs.declared.fault.EditFault.{EditFault}
use Rattle.sbl_bench.specs.declared.fault.EditFault.TheVariants as fault
use Rattle.sbl_sessions.specs.Commands.{Command, Makes, Reports, Says, HasNoText, command_of}
use Rattle.sbl_sessions.specs.Requests.{Request}

-- a text and the line feed that ends it
abbrev pub with_line_feed : List ℕ → List ℕ
with_line_feed text = text ++ 10 ∷ []

-- the number and the name of a fault
abbrev pub number_and_name : EditFault → List ℕ × List ℕ
number_and_name fault.Present = (codes "40", codes "Present")
number_and_name fault.Absent = (codes "41", codes "Absent")
number_and_name fault.EmptyWord = (codes "42", codes "EmptyWord")
number_and_name fault.WordTooLong = (codes "43", codes "WordTooLong")
number_and_name fault.Full = (codes "44", codes "Full")
number_and_name fault.NoRoutine = (codes "45", codes "NoRoutine")
number_and_name fault.NoAmong = (codes "46", codes "NoAmong")
number_and_name fault.AmongCount = (codes "47", codes "AmongCount")
number_and_name (fault.Script f) = (codes "48", script_name f)
number_and_name fault.OutOfMemory = (codes "49", codes "OutOfMemory")
number_and_name fault.MeterFull = (codes "50", codes "MeterFull")
number_and_name fault.BadLimit = (codes "51", codes "BadLimit")
number_and_name fault.NoGrouping = (codes "53", codes "NoGrouping")
number_and_name fault.BrokenOff = (codes "68", codes "BrokenOff")

-- the reply to an edit: `ok`, or `no` with the number and name of the fault
abbrev pub edit_text : Option EditFault → List ℕ
edit_text None = with_line_feed (codes "ok")
edit_text (Some f) = with_line_feed (codes "no " ++ (number_and_name f).0 ++ 32 ∷ (number_and_name f).1)

-- The memory that a request gets: enough for all of it; too little for its name or its block; or too little for its edit or its
-- report, after this many of the runs that the edit needs.
pub data Memory : Type 0 where
  Enough BlockRefused : Memory
  RefusedAfter : ℕ → Memory

-- Nothing is changed, and this is written.
abbrev pub Tells : Contents → List ℕ → List ℕ → Contents → Type 0
Tells s expected text t = (text ≡ expected) × (t ≡ s)

-- An edit has its verdict, and the bench is the one after it. If an allocation fails, the fault is `OutOfMemory`, and only the
-- count of runs may change, by the number of runs that were made.
abbrev pub IsEdit : Contents → Memory → Edit → Option EditFault → Contents → Type 0
IsEdit s Enough e f t = IsVerdict s e f t
IsEdit s BlockRefused (Replace what block) f t = (f ≡ Some fault.OutOfMemory) × (t ≡ s)
IsEdit s BlockRefused e f t = ⊥
IsEdit s (RefusedAfter n) e f t = (f ≡ Some fault.OutOfMemory) × (t ≡ record s { count = s.count + n }) × IsOutOfMemory s e t

-- A report is written whole, or an allocation for it fails. There is no report of a word that is not in the vocabulary; that is
-- said without an allocation.
abbrev pub IsReport : Contents → Option (List ℕ) → Memory → List ℕ → Contents → Type 0
IsReport s None memory text t = Tells s (edit_text (Some fault.Absent)) text t
IsReport s (Some report) Enough text t = Tells s report text t
IsReport s (Some report) memory text t = Tells s (edit_text (Some fault.OutOfMemory)) text t

-- The reply to a command, and the bench after it. A block that is not a text is refused for that, or an allocation for it fails.
abbrev pub IsReplyTo : Contents → Command → Memory → List ℕ → Contents → Type 0
IsReplyTo s (Makes e) memory text t = (f : Option EditFault) × IsEdit s memory e f t × (text ≡ edit_text f)
IsReplyTo s (Reports report) memory text t = IsReport s (report s) memory text t
IsReplyTo s (Says reply) memory text t = Tells s reply text t
IsReplyTo s (HasNoText f) memory text t = IsReport s (Some (edit_text (Some (fault.Script f)))) memory text t

-- The whole text of a session with these requests that starts with this bench, and the bench after it. The list gives the
-- memory of each request in turn.
abbrev pub Answers : Contents → List Request → List Memory → List ℕ → Contents → Type 0
Answers s [] [] text t = Tells s [] text t
Answers s (request ∷ requests) (memory ∷ m) text t = (first : List ℕ) × (next : Contents) × (rest : List ℕ)
    × IsReplyTo s (command_of request) memory first next × Answers next requests m rest t × (text ≡ first ++ rest)
Answers s requests m text t = ⊥
