-- What the functions inside the crate promise each other, and names for proofs.
pub mod CodeParts
pub mod DirectiveParts
pub mod LiteralParts
pub mod PieceParts
pub mod TokenParts
