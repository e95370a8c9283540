-- definitions that the contracts of public functions use
pub mod Faults
pub mod Loading
pub mod LoadedRows
pub mod OneLoading
pub mod FileWords
-- what the functions inside the crate promise each other: nothing in these need be believed
pub mod WordLists
pub mod VocabularyRows
pub mod inside
