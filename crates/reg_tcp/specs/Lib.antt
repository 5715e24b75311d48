pub mod Port
pub mod Steps
