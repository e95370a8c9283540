-- The changes that either of the two lists has, by which list it is.
use Rattle.std.specs.Prelude.{ℕ, List, Option}
use Rattle.sbl_rows.specs.declared.change.Side.{Side}
use Rattle.sbl_rows.specs.declared.change.Side.TheVariants as side
use Rattle.sbl_rows.specs.Changes.{Change, word_addition, class_merger, class_renaming, word_removal, class_split}
use Rattle.sbl_rows.specs.Classes.{Class}
use Rattle.sbl_semantics.specs.Outcome.{Outcome'}
use Rattle.sbl_rows.specs.Rows.{Row}

-- a word of this list, by its outcome in the other one
abbrev pub lone : Side → Option Outcome' → Row → Option Change
lone side.First other r = word_removal other r
lone side.Second other r = word_addition other r

-- a class of this list, by the stems of its words in the other one
abbrev pub several : Side → Class → List (List ℕ) → Option Change
several side.First c stems = class_split c stems
several side.Second c stems = class_merger c stems

-- a class of the first list
abbrev pub renaming : List Class → Class → Option Change
renaming now c = class_renaming now c c.members
