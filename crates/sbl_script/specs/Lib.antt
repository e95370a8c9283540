-- definitions that the contracts of public functions use
pub mod ParsedScript
pub mod Reading
pub mod Edits
pub mod Parts
pub mod SpelledScript
pub mod OneReading
pub mod OneEdit
pub mod OnlyTheItem
pub mod CanonicalText
-- what the functions inside the crate promise each other: nothing in these need be believed
pub mod Refusals
pub mod Homes
