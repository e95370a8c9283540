-- definitions that the contracts of public functions use
pub mod Words
pub mod Numbers
pub mod Requests
pub mod Commands
pub mod Answers
pub mod CommandViews
pub mod EditFaults
pub mod Session
pub mod OneAnswer
-- what the functions inside the crate promise each other: nothing in these need be believed
pub mod inside
