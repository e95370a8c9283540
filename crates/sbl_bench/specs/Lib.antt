-- definitions that the contracts of public functions use
pub mod Vocabulary
pub mod Traces
pub mod Contents
pub mod Edits
pub mod BreakingOff
pub mod OneVerdict
pub mod EqualScripts
pub mod Names
pub mod Undo
pub mod BreakLaws
pub mod KeptRuns
pub mod LeavesChanges
pub mod Whys
-- what the functions inside the crate promise each other, and names for proofs: nothing in these need be believed
pub mod inside
