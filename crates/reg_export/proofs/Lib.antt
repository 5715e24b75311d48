pub mod Placing
pub mod Seen
pub mod Putting
pub mod Filling
pub mod Rows
pub mod Callers
pub mod Again
pub mod Writing
pub mod Whole
pub mod Requests
pub mod Told
pub mod Ids
mod Worked
