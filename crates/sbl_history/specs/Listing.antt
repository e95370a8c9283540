-- The rows of the edits that can be undone and redone.
use Rattle.std.specs.Prelude.{ℕ, List, [], ◌∷◌, ◌++◌, codes, decimal, map, reverse}
use Rattle.sbl_io.specs.Records.{records_text}
use Rattle.sbl_ast.specs.NamedParts.{Part', Among, Routine, Grouping}
use Rattle.sbl_history.specs.History.{EditKind, OfLimit, OfPart, OfScript, Past, PastEdit}

abbrev pub part_fields : Part' → List (List ℕ)
part_fields (Routine name) = codes "routine" ∷ name ∷ []
part_fields (Among name k) = codes "among" ∷ name ∷ decimal k ∷ []
part_fields (Grouping name) = codes "grouping" ∷ name ∷ []

-- what was edited; of a limit the one that was set
abbrev pub kind_fields : EditKind → List (List ℕ)
kind_fields (OfPart what) = part_fields what
kind_fields OfScript = codes "script" ∷ []
kind_fields (OfLimit n) = codes "limit" ∷ decimal n ∷ []

-- a row for each edit, which begins with this word
abbrev pub edit_rows : List ℕ → List PastEdit → List (List (List ℕ))
edit_rows word edits = map (λ e. word ∷ kind_fields e.kind) edits

-- the edits that can be undone, the oldest first, and then those that were undone, the next one to be redone first
abbrev pub history_text : Past → List ℕ
history_text p = records_text (edit_rows (codes "done") p.earlier ++ edit_rows (codes "undone") (reverse p.later))
