-- definitions that public contracts depend on
pub mod Questions
pub mod Commands
pub mod FaultReplies
pub mod Replies
pub mod ReplyViews
pub mod Serving
pub mod WholeWork
pub mod BreakLaws
-- what the functions inside the crate promise each other: nothing in these need be believed
pub mod Answering
