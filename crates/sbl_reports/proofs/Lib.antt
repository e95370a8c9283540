pub mod BlockFacts
pub mod RowFacts
pub mod FindFacts
pub mod FamilyFacts
pub mod StemFacts
pub mod WordListFacts
