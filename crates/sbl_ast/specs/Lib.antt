-- definitions that public contracts depend on
pub mod Folds
pub mod Tree
pub mod Source
pub mod View
pub mod Order
pub mod Symbols
pub mod Places
pub mod Texts
pub mod Counts
pub mod NamedParts
-- what the functions inside the crate promise each other; no public contract depends on these
pub mod Terminal
pub mod Spelled
pub mod TerminalPlaces
pub mod inside
