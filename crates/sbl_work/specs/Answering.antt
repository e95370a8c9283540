-- What the functions inside promise: the reply to the current line of work, with its block, and work over lines.
use Rattle.std.specs.Prelude.{◌≡◌, ℕ, Bool, true, List, Option, Result}
use Rattle.std.specs.Option.{IfSome, is_some}
use Rattle.sbl_bench.specs.Contents.{Contents}
use Rattle.sbl_bench.specs.KeptRuns.{KeptRuns, contents_of}
use Rattle.sbl_io.specs.Devices.{Tally}
use Rattle.sbl_io.specs.HeldInput.{AllFit, Took, input_of, line_of}
use Rattle.sbl_io.specs.declared.faults.ServeFault.{ServeFault}
use Rattle.sbl_io.specs.declared.lines.Lines.{Lines}
use Rattle.sbl_reports.specs.Block.{BlockLines, Breaks, NoPoint, made_text}
use Rattle.sbl_sessions.specs.inside.SessionParts.{block_lines}
use Rattle.sbl_sessions.specs.declared.replies.Reply.{Reply}
use Rattle.sbl_sessions.specs.Commands.{target_of, text_of_block}
use Rattle.sbl_work.specs.Commands.{WorkCommand, asks_work_block, by_work_block, part_command}
use Rattle.sbl_history.specs.Desks.{State, state_of}
use Rattle.sbl_history.specs.declared.desk.Desk.{Desk}
use Rattle.sbl_sessions.specs.Session.{Ends}
use Rattle.sbl_work.specs.Serving.{IsWork}
use Rattle.sbl_work.specs.WholeWork.{WorksOrMemory}
use Rattle.sbl_work.specs.ReplyViews.{IsWorkAnswer}

-- the line with its block, if it asks for one, has this reply, for some bytes of its file; the block was taken from the input
pub record IsWorkAnswered (input new_input : Option (List ℕ)) (line : List ℕ)
    (s : Contents) (d : State) (r : Reply) (t : Contents) (e : State) : Type 0 where
  pub block : Option (List (List ℕ))
  pub formed : (asks_work_block line ≡ is_some block) × IfSome block NoPoint
  pub fit : AllFit (block_lines block)
  pub took : Took input new_input (block_lines block)
  pub file : Option (List ℕ)
  pub answer : IsWorkAnswer s d (by_work_block file line block) r t e

-- the block that the line asks for was not read to its end
abbrev pub BreaksWork : Option (List ℕ) → Option (List ℕ) → List ℕ → ServeFault → Type 0
BreaksWork input new_input line f = (asks_work_block line ≡ true) × Breaks BlockLines input new_input f

-- the same over lines, a bench and a desk
abbrev pub AnswersLine : {R : Type 0} → (R → Option (List ℕ)) → Lines R → Lines R → KeptRuns → Desk → Reply → KeptRuns → Desk → Type 0
AnswersLine left lines new_lines bench desk r new_bench new_desk =
    IsWorkAnswered (input_of left lines) (input_of left new_lines) (line_of lines) (contents_of bench) (state_of desk) r
    (contents_of new_bench) (state_of new_desk)

abbrev pub BreaksLine : {R : Type 0} → (R → Option (List ℕ)) → Lines R → Lines R → KeptRuns → Desk → KeptRuns → Desk → ServeFault → Type 0
BreaksLine left lines new_lines bench desk new_bench new_desk f =
    BreaksWork (input_of left lines) (input_of left new_lines) (line_of lines) f
    × (contents_of new_bench ≡ contents_of bench) × (state_of new_desk ≡ state_of desk)

-- the edit of a part of the script that a line asks for with its block
abbrev pub part_edit : List ℕ → List (List ℕ) → WorkCommand
part_edit line lines = part_command (target_of line) (made_text lines) (text_of_block lines)

-- work over lines, a writer, a bench and a desk
abbrev pub Works : {R W : Type 0} → (R → Option (List ℕ)) → (W → Option (List ℕ)) → List ℕ → Lines R → Lines R → W → W
    → KeptRuns → Desk → KeptRuns → Desk → Result (Unit {0}) ServeFault → Type 0
Works left held prompt lines new_lines writer new_writer bench desk new_bench new_desk result =
    IsWork prompt (input_of left lines) (input_of left new_lines) (held writer) (held new_writer)
    (contents_of bench) (state_of desk) (contents_of new_bench) (state_of new_desk) result

-- work over lines and a writer, from a bench and the bytes of its script; edits may be broken off if this is true
abbrev pub WorksOnBench : {R W : Type 0} → (R → Option (List ℕ)) → (R → Tally) → (W → Option (List ℕ)) → (W → Tally)
    → Bool → List ℕ → List ℕ → Lines R → Lines R → W → W → KeptRuns → Result (Unit {0}) ServeFault → Type 0
WorksOnBench left reads held writes may_break bytes prompt lines new_lines writer new_writer bench result =
    WorksOrMemory (Ends reads writes lines new_lines writer new_writer) may_break bytes prompt
    (input_of left lines) (input_of left new_lines) (held writer) (held new_writer) (contents_of bench) result
