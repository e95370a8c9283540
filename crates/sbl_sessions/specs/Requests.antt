-- The requests of a session: a line, and the block after it if its command word asks for one.
use Rattle.std.specs.Prelude.{◌≡◌, ◌⊎◌, ◌≤◌, ℕ, length, Bool, true, List, [], ◌∷◌, ◌++◌, Option, Some, None, codes, if◌then◌else◌}
use Rattle.std.specs.List.{All, flat_map}
use Rattle.std.specs.Option.{IfSome, is_some, option_map, option_map_or}
use Rattle.std.specs.Str.{bytes_eq}
use Rattle.sbl_reports.specs.Block.{BlockLines, NoPoint, point}
use Rattle.sbl_io.specs.HeldInput.{AllFit, Took}
use Rattle.sbl_io.specs.LinesOf.{max_line}
use Rattle.sbl_ast.specs.NamedParts.{Part', Among, Routine, Grouping}
use Rattle.sbl_sessions.specs.Numbers.{number_in}
use Rattle.sbl_sessions.specs.Words.{argument, command_word}

pub record Request : Type 0 where
  pub line : List ℕ
  pub block : Option (List (List ℕ))

-- The command words that a block follows, each with what it replaces by its argument: the body of the routine of this name; an
-- among, with a name, a space and a number as the argument; the terms of the grouping of this name; none if the argument is bad.
abbrev pub block_word : List ℕ → Option (List ℕ → Option Part')
block_word word =
    if bytes_eq word (codes "routine") then Some (λ name. Some (Routine name))
    else (if bytes_eq word (codes "among") then Some (λ text. option_map (Among (command_word text)) (number_in (argument text)))
    else (if bytes_eq word (codes "grouping") then Some (λ name. Some (Grouping name)) else None))

-- whether a block follows the line, whatever else the line contains
abbrev pub asks_block : List ℕ → Bool
asks_block line = is_some (block_word (command_word line))

-- the lines of requests: of each, its line and, if it has a block, the lines of the block and a line `.`
abbrev pub lines_in_all : List Request → List (List ℕ)
lines_in_all requests = flat_map (λ r. r.line ∷ option_map_or (λ lines. lines ++ point ∷ []) r.block []) requests

-- These requests were taken from the input. They are whole: there is a block exactly if one is asked for, and none of its lines
-- is `.`. No line of them is too long.
pub record TookRequests (old new : Option (List ℕ)) (requests : List Request) : Type 0 where
  pub each : All (λ r. (asks_block r.line ≡ is_some r.block) × IfSome r.block NoPoint) requests
  pub fit : AllFit (lines_in_all requests)
  pub lines : Took old new (lines_in_all requests)

-- a line that asks for a block, and lines of that block before its line `.`
abbrev pub IsOpen : List (List ℕ) → Type 0
IsOpen [] = ⊥
IsOpen (line ∷ lines) = (asks_block line ≡ true) × (length line ≤ max_line) × BlockLines lines
