pub mod Ends
pub mod Joined
pub mod Lawful
pub mod Then
pub mod Told
