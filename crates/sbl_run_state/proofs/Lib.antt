pub mod EarlyEnds
pub mod Nothing
pub mod NumberingTables
pub mod Marked
pub mod SlotValues
pub mod Seeking
pub mod FurtherTerms
