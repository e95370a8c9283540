-- The edits that can be undone and redone.
use Rattle.std.specs.Prelude.{ℕ, List, [], ◌∷◌, ◌++◌, ◌-◌, length, drop}
use Rattle.sbl_bench.specs.Edits.{Edit, Limit, Whole}
use Rattle.sbl_ast.specs.NamedParts.{Part'}

-- what an edit is undone or redone by: a text of a script, or a limit of steps
pub data Turn : Type 0 where
  ToText : List ℕ → Turn
  ToLimit : ℕ → Turn

-- what a command edited: a part of the script, the whole script, or the limit, which it set to this one
pub data EditKind : Type 0 where
  OfPart : Part' → EditKind
  OfScript : EditKind
  OfLimit : ℕ → EditKind

-- an edit that can be undone or redone
pub record PastEdit : Type 0 where
  pub kind : EditKind
  pub turn : Turn

-- the edits that can be undone, the latest last, and the edits that were undone, the next one to be redone last
pub record Past : Type 0 where
  pub earlier : List PastEdit
  pub later : List PastEdit

abbrev pub max_edits : ℕ
max_edits = 100

-- the last 100 of them
abbrev pub latest : List PastEdit → List PastEdit
latest edits = drop (length edits - max_edits) edits

-- After an edit nothing can be redone, and the oldest edit is forgotten if there are more than 100.
abbrev pub remember_edit : Past → PastEdit → Past
remember_edit p edit = record { earlier = latest (p.earlier ++ edit ∷ []); later = [] }

-- the edit of a bench that undoes or redoes
abbrev pub edit_of : Turn → Edit
edit_of (ToText text) = Whole text
edit_of (ToLimit n) = Limit n
