pub mod Ways
pub mod Reasons
pub mod Counts
pub mod Picks
pub mod Stated
