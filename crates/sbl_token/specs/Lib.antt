-- definitions that public contracts depend on
pub mod Words
pub mod Signs
pub mod SignCuts
pub mod Lexemes
-- what the functions inside the crate promise each other; no public contract depends on these
pub mod Lookup
