-- definitions that the contracts of public functions use
pub mod Setting
pub mod Rows
pub mod StemRows
pub mod ChangedRows
pub mod Classes
pub mod ClassesAreSound
pub mod Pairs
pub mod Grouping
pub mod Moves
pub mod Changes
pub mod Stats
pub mod Largest
pub mod Families
pub mod ChangesAreSound
pub mod FamiliesAreSound
pub mod LargestAreSound
-- what the functions inside the crate promise each other: nothing in these need be believed
pub mod KnownOutcomes
pub mod Sides
pub mod Ranking
pub mod Counting
pub mod Views
pub mod inside
