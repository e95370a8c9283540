pub mod Putting
pub mod Held
pub mod Walking
pub mod Words
pub mod Swapped
