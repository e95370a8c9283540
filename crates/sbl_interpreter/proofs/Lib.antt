pub mod Flows
pub mod Inners
mod SlotFacts
