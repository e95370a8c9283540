-- definitions that public contracts depend on
pub mod SubjectTokens
pub mod FaultPlaces
pub mod BlockPlaces
pub mod FaultRanges
pub mod FaultLists
pub mod BlockFaults
pub mod FaultNumbers
pub mod Positions
pub mod ItemWords
pub mod PartTokens
pub mod Definitions
pub mod Heads
-- what the functions inside the crate promise each other; no public contract depends on these
pub mod Walks
pub mod HeadReader
pub mod FaultKinds
pub mod TokenTrees
pub mod LexerStops
