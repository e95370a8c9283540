pub mod Adding
pub mod Spaced
pub mod Placed
