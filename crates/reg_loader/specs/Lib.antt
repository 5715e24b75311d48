pub mod Columns
pub mod Laws
pub mod Mentions
pub mod Plan
pub mod Readings
pub mod Rows
pub mod Tables
pub mod Walks
