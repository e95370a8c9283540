-- definitions that the contracts of public functions use
pub mod Block
pub mod Listings
pub mod Lookups
pub mod Reports
pub mod Families
pub mod StemLines
pub mod StemLinesAreRead
pub mod WordLists
-- what the functions inside the crate promise each other: nothing in these need be believed
pub mod FamilyReader
pub mod inside
