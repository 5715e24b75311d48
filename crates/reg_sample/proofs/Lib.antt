pub mod Records
pub mod Asking
