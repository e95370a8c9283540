pub mod Entries
pub mod TouchFacts
pub mod PairFacts
pub mod Following
pub mod ClassFacts
pub mod ChangeFacts
pub mod RunsBefore
