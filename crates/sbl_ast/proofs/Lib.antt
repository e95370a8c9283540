pub mod Views
pub mod After
pub mod Lexed
pub mod PlacedTokens
