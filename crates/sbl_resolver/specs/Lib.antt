-- definitions that public contracts depend on
pub mod Bodies
pub mod Occurrences
pub mod Checks
pub mod Amongs
pub mod Laws
pub mod Subjects
pub mod AllFaults
-- what the functions inside the crate promise each other; no public contract depends on these
pub mod OccurrenceView
pub mod MetNames
pub mod FirstFault
pub mod inside
