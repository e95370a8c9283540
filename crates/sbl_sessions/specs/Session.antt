-- A session: what is written, and the bench after it, by the bytes of the input.
use Rattle.std.specs.Prelude.{◌≡◌, ◌≢◌, ◌⊎◌, ℕ, List, [], ◌∷◌, Option, Some, Result, Ok, Err, ⊤, take}
use Rattle.std.specs.Io.KnownBytes.{Appends, IsAtEnd, Keeps}
use Rattle.sbl_bench.specs.Contents.{Contents}
use Rattle.sbl_bench.specs.KeptRuns.{KeptRuns, contents_of}
use Rattle.sbl_sessions.specs.Answers.{Answers, IsReplyTo, Memory}
use Rattle.sbl_reports.specs.Block.{Breaks}
use Rattle.sbl_sessions.specs.Commands.{command_of}
use Rattle.sbl_io.specs.Devices.{HasStopped, Tally}
use Rattle.sbl_io.specs.Faults.{serve_fault_of}
use Rattle.sbl_io.specs.HeldInput.{HasCause, TookWhole, input_of}
use Rattle.sbl_sessions.specs.Requests.{IsOpen, Request, TookRequests}
use Rattle.sbl_io.specs.declared.lines.Lines.{Lines}
use Rattle.sbl_io.specs.declared.faults.LineFault.{LineFault}
use Rattle.sbl_io.specs.declared.faults.LineFault.TheVariants as line
use Rattle.sbl_io.specs.declared.faults.ServeFault.{ServeFault}
use Rattle.sbl_io.specs.declared.faults.ServeFault.TheVariants as fault

-- A moment of a session: the input that is left, what the writer holds, and the bench.
pub record Moment : Type 0 where
  pub input : Option (List ℕ)
  pub held : Option (List ℕ)
  pub bench : Contents

abbrev pub moment : {R W : Type 0} → (R → Option (List ℕ)) → (W → Option (List ℕ)) → Lines R → W → KeptRuns → Moment
moment left held lines writer bench = record { input = input_of left lines; held = held writer; bench = contents_of bench }

-- Requests were taken from the input, and exactly these have their replies: for some memory of each, the replies were written,
-- and the bench is the one after them.
pub record Replies (old new : Moment) : Type 0 where
  pub requests : List Request
  pub taken : TookRequests old.input new.input requests
  pub m : List Memory
  pub text : List ℕ
  pub answers : Answers old.bench requests m text new.bench
  pub written : Appends old.held new.held text

-- The requests up to `middle` have their replies. The edit of the one after them is made, and a prefix of its reply is written.
pub record CutsReply (old new : Moment) : Type 0 where
  pub middle : Moment
  pub before : Replies old middle
  pub request : Request
  pub taken : TookRequests middle.input new.input (request ∷ [])
  pub reply : (memory : Memory) × (text : List ℕ) × IsReplyTo middle.bench (command_of request) memory text new.bench
      × (count : ℕ) × Appends middle.held new.held (take count text)

-- All requests up to `rest` have their replies, and no line feed ends the request that is cut off. If the reader stops, a line feed
-- ends the last request with a reply.
pub record CutsRequest (old new : Moment) (f : ServeFault) : Type 0 where
  pub rest : Option (List ℕ)
  pub before : Replies old (record new { input = rest })
  pub cut : Breaks (λ lines. ((lines ≡ []) × (f ≢ fault.Cut)) ⊎ IsOpen lines) rest new.input f
  pub whole : f ≡ fault.Read → TookWhole old.input rest

-- What a session of this input writes, the bench after it, and the input that is left: all requests have their replies if it
-- ends; the writer stops; or the reader stops, a line is too long, or the input ends inside a block.
pub record IsSession (old new : Moment) (result : Result (Unit {0}) ServeFault) : Type 0 where
  pub ends : result ≡ Ok tt → Replies old new × IsAtEnd new.input
  pub writer_stops : result ≡ Err fault.Write → CutsReply old new
  pub input_stops : (f : ServeFault) → result ≡ Err f → f ≢ fault.Write → CutsRequest old new f

-- The lines have returned this fault before: the session returns it again, and does nothing.
abbrev pub ReturnsAgain : LineFault → Moment → Moment → Result (Unit {0}) ServeFault → Type 0
ReturnsAgain f old new result = (result ≡ Err (serve_fault_of f)) × (new.bench ≡ old.bench) × Keeps old.held new.held × Keeps old.input new.input

-- Why a session may end. A fault of reading or writing is caused by the device or a bound, or the lines returned it before. A
-- line that is too long, or a block that the end of input cuts off, is in the input, as defined above.
abbrev pub Ends : {R W : Type 0} → (R → Tally) → (W → Tally) → Lines R → Lines R → W → W → Result (Unit {0}) ServeFault → Type 0
Ends reads writes lines new_lines writer new_writer (Ok u) = ⊤
Ends reads writes lines new_lines writer new_writer (Err fault.Read) = HasCause reads lines new_lines ⊎ (lines.fault ≡ Some line.Read)
Ends reads writes lines new_lines writer new_writer (Err fault.Write) = HasStopped writes writer new_writer
Ends reads writes lines new_lines writer new_writer (Err fault.LineTooLong) = ⊤
Ends reads writes lines new_lines writer new_writer (Err fault.Cut) = ⊤
Ends reads writes lines new_lines writer new_writer (Err f) = ⊥
