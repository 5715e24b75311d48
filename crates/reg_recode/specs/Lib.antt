pub mod Recoded
