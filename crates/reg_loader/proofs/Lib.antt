pub mod Children
pub mod Counts
pub mod Finding
pub mod Judging
pub mod Lists
pub mod Reaching
pub mod Takings
pub mod Steps
pub mod Named
pub mod Lasting
pub mod Planned
mod Worked
mod WorkedPlans
