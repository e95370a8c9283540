-- What the functions inside the crate promise each other, and names for proofs.
pub mod ProofNames
pub mod Stops
pub mod AffectedWords
pub mod Changes
pub mod WordLists
pub mod KeptEntries
