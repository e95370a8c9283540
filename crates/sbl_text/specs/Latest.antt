-- The index of the last definition of a macro. Internal: no contract of a public function uses these definitions.
use Rattle.std.specs.Prelude.{◌≡◌, ℕ, List, Option, Some, None, Vec}
use Rattle.std.specs.Ordering.{nat_cmp}
use Rattle.std.specs.Cmp.Lexicographic.{slice_cmp}
use Rattle.std.specs.BTreeMap.{BTreeMap, get_by}
use Rattle.std.specs.List.{slice_get}
use Rattle.sbl_text.specs.Escapes.{Definition, find}

-- the value of a map at a name
abbrev pub at_name : {X Y : Type 0} → BTreeMap (Vec ℕ Y) X → List ℕ → Option X
at_name m name = get_by (λ k. slice_cmp nat_cmp name k.items) m

-- the index in the list of the last definition of a name, if there is one
abbrev pub IsLatest : List Definition → List ℕ → Option ℕ → Type 0
IsLatest ds name None = find ds name ≡ None
IsLatest ds name (Some i) = (d : Definition) × (slice_get ds i ≡ Some d) × (find ds name ≡ Some d.value)
