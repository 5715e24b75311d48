pub mod Colons
pub mod Scopes
pub mod Index
