pub mod GapFacts
pub mod TokenFacts
