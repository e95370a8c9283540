-- definitions that the contracts of public functions use
pub mod KeptEntries
pub mod Pairs
pub mod RunChanges
pub mod Last
pub mod WordHash
-- what only proofs name: nothing in these need be believed
pub mod ShownRows
