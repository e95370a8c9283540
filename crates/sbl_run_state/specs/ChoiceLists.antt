-- The choices of a call.
use Rattle.std.specs.Prelude.{ℕ, List, [], ◌∷◌, Option, Some, None}
use Rattle.sbl_run_state.specs.declared.choices.ChoiceSlots.{ChoiceSlots}
use Rattle.sbl_run_state.specs.declared.choices.ChoiceSlots.TheVariants.{Empty, Open, Group, Many}

-- the choices of a call; one without amongs has none
abbrev pub choices_of : ChoiceSlots → List (Option ℕ)
choices_of Empty = []
choices_of Open = None ∷ []
choices_of (Group group) = Some group ∷ []
choices_of (Many choices) = choices.value
