pub mod Calendar
pub mod MomentText
pub mod Names
pub mod NameParts
pub mod Entities
