pub mod After
pub mod Joins
