-- definitions that public contracts depend on
pub mod InputNames
