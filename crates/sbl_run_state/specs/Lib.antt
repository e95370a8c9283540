-- definitions that public contracts depend on
pub mod Halts
pub mod Endings
-- what the functions inside the crate promise each other; no public contract depends on these
pub mod Slots
pub mod ChoiceLists
pub mod Marks
pub mod Seeking
