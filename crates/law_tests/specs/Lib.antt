-- Parts of the statements of laws, written out again: none of them is taken from the definition of a law.
pub mod Scripts
pub mod Groupings
pub mod Searches
pub mod Undo
pub mod Classes
pub mod Changes
pub mod Families
pub mod Filters
pub mod Uses
pub mod Lists
pub mod WorkBreaks
