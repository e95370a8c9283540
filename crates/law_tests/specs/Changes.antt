-- Changes in both directions.
use Rattle.std.specs.Prelude.{◌≡◌, Bool, List}
use Rattle.std.specs.List.{list_any}
use Rattle.sbl_rows.specs.Changes.{Change}
use Rattle.sbl_rows.specs.ChangesAreSound.{other_way}

-- some of the changes has a property exactly if some of the others has it the other way round
abbrev pub AreOtherWay : List Change → List Change → Type 0
AreOtherWay changes others = (test : Change → Bool) → list_any test changes ≡ list_any (λ c. test (other_way c)) others
