-- definitions that the contracts of public functions use
pub mod BuiltFrom
pub mod Why
pub mod Holes
pub mod Frame
pub mod Marks
pub mod NumberedScript
pub mod MachineOf
pub mod Sound
pub mod EnoughSteps
pub mod Searches
pub mod NamesStand
pub mod Groupings
pub mod DifferLaws
pub mod ItemRefs
-- what the functions inside the crate promise each other: nothing in these need be believed
pub mod AmongList
pub mod Marking
pub mod inside
