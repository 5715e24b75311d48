pub mod Grants
pub mod May
pub mod Callers
pub mod Lending
pub mod Holders
pub mod Filling
pub mod Touched
