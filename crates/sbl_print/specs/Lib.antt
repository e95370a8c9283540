-- definitions that public contracts depend on
pub mod Canonical
pub mod SpacedItems
-- what the functions inside the crate promise each other; no public contract depends on these
pub mod Adding
