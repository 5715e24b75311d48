pub mod Cutting
mod EntryKinds
mod Placing
