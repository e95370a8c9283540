-- What the functions inside the crate promise each other, and names for proofs.
pub mod TextSets
pub mod Noted
pub mod HeldTurns
