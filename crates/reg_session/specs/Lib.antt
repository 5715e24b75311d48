pub mod Answered
pub mod Input
pub mod Lines
pub mod Pending
pub mod Replies
pub mod Stops
pub mod Together
