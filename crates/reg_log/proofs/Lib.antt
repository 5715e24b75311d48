pub mod ByName
pub mod Following
pub mod Runs
