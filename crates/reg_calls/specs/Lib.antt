pub mod Asked
pub mod Faults
pub mod Queries
pub mod Reading
pub mod Responses
pub mod Unread
