pub mod Past
pub mod Telling
pub mod Growing
pub mod Joining
pub mod JoiningGroups
pub mod JoiningObjects
mod Worked
