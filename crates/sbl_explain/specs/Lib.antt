-- definitions that public contracts depend on
pub mod WhyRows
pub mod Integers
-- what the functions inside the crate promise each other: nothing in these need be believed
pub mod EventViews
pub mod Places
pub mod TakeNumbers
pub mod UsableViews
pub mod Kept
