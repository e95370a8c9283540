-- definitions that public contracts depend on
pub mod Classes
pub mod Escapes
pub mod Codes
pub mod Literals
pub mod Pieces
pub mod Directives
pub mod Tokens
pub mod SpacedTokens
pub mod Laws
-- what the functions inside the crate promise each other; no public contract depends on these
pub mod Skip
pub mod Scan
pub mod Latest
pub mod inside
