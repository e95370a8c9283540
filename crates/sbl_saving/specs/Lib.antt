-- definitions that public contracts depend on
pub mod Folders
pub mod Memory
pub mod Replacing
