-- definitions that public contracts depend on
pub mod Names
pub mod Touches
pub mod Events
pub mod Fitting
pub mod State
pub mod Moves
pub mod Slices
pub mod Numbers
pub mod Control
pub mod Choices
pub mod Limit
pub mod Items
pub mod Landmarks
pub mod Regions
pub mod Meaning
pub mod Outcome
pub mod TouchedItems
pub mod Differs
-- what proofs and the functions inside sbl_tree_diff use; no public contract depends on these
pub mod Same
pub mod DiffersByParts
pub mod inside
