-- definitions that public contracts depend on
pub mod Slots
pub mod Flow
pub mod CodeOf
-- what the functions inside the crate promise each other; no public contract depends on these
pub mod Performs
