mod Exact
mod Texts
mod Entities
mod Lists
mod Items
mod Objects
mod Keys
mod Grants
mod Attributes
mod LoadLists
mod Commands
pub mod Payloads
pub mod OldPayloads
mod Worked
