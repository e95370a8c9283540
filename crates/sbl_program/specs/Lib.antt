-- definitions that public contracts depend on
pub mod Characters
pub mod Terms
pub mod Bits
pub mod CharacterClasses
pub mod AmongStrings
pub mod Program
pub mod Chains
pub mod ProgramOf
pub mod FoundView
pub mod Arithmetic
pub mod Listing
pub mod Search
pub mod Actions
pub mod Run
pub mod Start
pub mod Rows
pub mod Best
pub mod Laws
pub mod Strings
pub mod LinkedStrings
-- what the functions inside the crate promise each other; no public contract depends on these
pub mod Linked
pub mod Keys
pub mod Beginnings
