-- The class of a number among the classes that are kept.
use Rattle.std.proofs.Common.{◌≡◌, ◌∙◌, ℕ, Bool, List, map, Some, option_map, sym, ap}
use Rattle.std.specs.Prelude.{slice_get}
use Rattle.std.proofs.lemmas.Option.{get_or_from_slice_get, slice_get-map}
use Rattle.sbl_program.specs.Terms.{class_at, no_character}

pub class_there : {A : Type 0} (of : A → ℕ → Bool) (classes : List A) (k : ℕ) (class : A) → slice_get classes k ≡ Some class → of class ≡ class_at (map of classes) k
class_there of classes k class h = sym (get_or_from_slice_get (map of classes) k (of class) no_character (slice_get-map of classes k ∙ ap (option_map of) h))
