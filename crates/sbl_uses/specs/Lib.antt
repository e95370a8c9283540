-- definitions that public contracts depend on
pub mod Moments
pub mod RoutineAmongs
pub mod Searches
pub mod Parts
pub mod Used
pub mod Unused
pub mod Uses
pub mod Counts
pub mod UsesLaws
pub mod EventsStay
pub mod UnusedViews
pub mod UsableViews
pub mod TakeNumbers
pub mod TakesRows
-- what the functions inside the crate promise each other: nothing in these need be believed
pub mod OpenSearches
pub mod TreeAmongs
pub mod GatheredGroups
pub mod AddedBases
