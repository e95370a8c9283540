-- definitions that public contracts depend on
pub mod Rows
pub mod TokenRows
pub mod PlaceRows
pub mod FaultRows
pub mod FaultViews
-- what the functions inside the crate promise each other; no public contract depends on these
pub mod Gaps
pub mod Lexing
pub mod Views
