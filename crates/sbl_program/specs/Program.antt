-- The program of a script: names are numbers, each among has its strings, and there are no memory addresses.
use Rattle.std.specs.Prelude.{ℕ, Bool, List}
use Rattle.sbl_program.specs.declared.action.Change.{Change}
use Rattle.sbl_program.specs.declared.action.Relation.{Relation}
use Rattle.sbl_program.specs.declared.node.Candidate.{Candidate}
use Rattle.sbl_program.specs.AmongStrings.{Listing}

-- a string: a literal, or a string variable
pub data StringTerm : Type 0 where
  literal : List ℕ → StringTerm
  variable : ℕ → StringTerm

-- an arithmetic expression
pub data Arithmetic : Type 0 where
  number : ℕ → Arithmetic
  integer : ℕ → Arithmetic
  cursor : Arithmetic
  limit : Arithmetic
  len : Arithmetic
  lenof : StringTerm → Arithmetic
  maxint : Arithmetic
  minint : Arithmetic
  negative : Arithmetic → Arithmetic
  sum : Arithmetic → Arithmetic → Arithmetic
  difference : Arithmetic → Arithmetic → Arithmetic
  product : Arithmetic → Arithmetic → Arithmetic
  quotient : Arithmetic → Arithmetic → Arithmetic

-- a command that contains no command
pub data Action : Type 0 where
  match : StringTerm → Action
  grouping : ℕ → Action
  non : ℕ → Action
  next : Action
  hop : Arithmetic → Action
  tolimit : Action
  atlimit : Action
  setmark : ℕ → Action
  atmark : Arithmetic → Action
  tomark : Arithmetic → Action
  set : ℕ → Action
  unset : ℕ → Action
  boolean : ℕ → Action
  left_bracket : Action
  right_bracket : Action
  replace : StringTerm → Action
  delete : Action
  keep : ℕ → Action
  insert : StringTerm → Action
  attach : StringTerm → Action
  assign : ℕ → Change → Arithmetic → Action
  compare : Arithmetic → Relation → Arithmetic → Action
  t : Action
  f : Action

mutual
  pub data Node : Type 0 where
    act : Action → Node
    sequence : Nodes → Node
    either : Node → Node → Node
    both : Node → Node → Node
    not : Node → Node
    test : Node → Node
    try : Node → Node
    do_ : Node → Node
    fail : Node → Node
    repeat : Node → Node
    loop : Arithmetic → Node → Node
    atleast : Arithmetic → Node → Node
    goto : Node → Node
    gopast : Node → Node
    backwards : Node → Node
    setlimit : Node → Node → Node
    call : ℕ → Node
    -- the search of an among: the number of the among in its routine, its strings, and the candidate of each string
    search : ℕ → Listing → List Candidate → Node
    -- an among: its number, what runs before the command of the chosen group, and the commands of the groups
    among : ℕ → Nodes → Nodes → Node

  pub data Nodes : Type 0 where
    no_commands : Nodes
    command : Node → Nodes → Nodes

-- a routine, and the number of amongs in it
pub record Routine : Type 0 where
  pub body : Node
  pub amongs : ℕ

pub record Program : Type 0 where
  -- the number of variables of each type
  pub integers : ℕ
  pub booleans : ℕ
  pub strings : ℕ
  -- the class of each grouping: whether it contains a character
  pub groupings : List (ℕ → Bool)
  pub routines : List Routine
  -- the number of the routine to run
  pub external : ℕ
