mod Firsts
mod Members
mod Placing
pub mod Worked
