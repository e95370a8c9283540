-- definitions that public contracts depend on
pub mod History
pub mod Listing
pub mod Refused
pub mod MayBreak
pub mod Desks
pub mod Editing
pub mod Splicing
pub mod LineEnds
pub mod ChangeReports
-- what the functions inside the crate promise each other; no public contract depends on these
pub mod inside
