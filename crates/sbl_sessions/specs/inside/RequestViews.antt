-- A command, without memory addresses, and what a request does with the input and the bench.
use Rattle.std.specs.Prelude.{◌≡◌, ℕ, true, List, Option}
use Rattle.std.specs.Str.{chars}
use Rattle.sbl_bench.specs.Contents.{Contents}
use Rattle.sbl_bench.specs.Edits as edits
use Rattle.sbl_reports.specs.Block.{BlockLines, Breaks}
use Rattle.sbl_io.specs.HeldInput.{AllFit, Took}
use Rattle.sbl_io.specs.declared.faults.ServeFault.{ServeFault}
use Rattle.sbl_sessions.specs.CommandViews.{IsAnswer}
use Rattle.sbl_sessions.specs.Commands as command
use Rattle.sbl_sessions.specs.Commands.{command_of}
use Rattle.sbl_sessions.specs.Requests.{asks_block}
use Rattle.sbl_sessions.specs.inside.SessionParts.{Class, Classes, IsRequest, Nothing, Runs, Script, Stems, Trace, block_lines}
use Rattle.sbl_sessions.specs.declared.replies.Reply.{Reply}
use Rattle.sbl_sessions.specs.declared.session_commands.Command.{Command}
use Rattle.sbl_sessions.specs.declared.session_commands.Command.TheVariants as variants

abbrev pub view_command : Command → command.Command
view_command variants.Nothing = Nothing
view_command (variants.Add word) = command.Makes (edits.Add (chars word.now))
view_command (variants.Remove word) = command.Makes (edits.Remove (chars word.now))
view_command (variants.Limit n) = command.Makes (edits.Limit n)
view_command variants.HasNoNumber = command.Makes (edits.Limit 0)
view_command variants.Stems = Stems
view_command variants.Classes = Classes
view_command variants.Script = Script
view_command (variants.Class word) = Class (chars word.now)
view_command (variants.Trace word) = Trace (chars word.now)
view_command variants.Runs = Runs
view_command variants.Bad = command.Bad

-- the line with its block, if it asks for one, has this reply; the block was taken from the input
pub record IsAnswered (input new_input : Option (List ℕ)) (line : List ℕ) (s : Contents) (r : Reply) (t : Contents) : Type 0 where
  pub block : Option (List (List ℕ))
  pub formed : IsRequest (record { line = line; block = block })
  pub fit : AllFit (block_lines block)
  pub took : Took input new_input (block_lines block)
  pub answer : IsAnswer s (command_of (record { line = line; block = block })) r t

-- the block that the line asks for was not read to its end
abbrev pub BreaksBlock : Option (List ℕ) → Option (List ℕ) → List ℕ → ServeFault → Type 0
BreaksBlock input new_input line f = (asks_block line ≡ true) × Breaks BlockLines input new_input f
