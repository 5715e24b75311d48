pub mod Live
pub mod Actions
pub mod Settling
pub mod Lost
pub mod Veto
pub mod Outcome
pub mod Following
