-- What the functions inside the crate promise each other, and names for proofs.
pub mod BuiltFromParts
pub mod LastTouches
