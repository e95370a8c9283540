-- definitions that public contracts depend on
pub mod NumberedNames
pub mod NumberedClasses
pub mod NumberedAmongs
pub mod NumberedNumbers
pub mod NumberedItems
pub mod Ahead
pub mod Laws
-- what the functions inside the crate promise each other; no public contract depends on these
pub mod NumberedView
pub mod NameList
pub mod NamedAgain
