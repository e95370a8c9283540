-- What the functions inside the crate promise each other, and names for proofs.
pub mod PlaceParts
pub mod ViewParts
pub mod OrderParts
