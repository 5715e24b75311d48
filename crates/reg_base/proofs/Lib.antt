pub mod Days
pub mod Texts
pub mod Persons
pub mod Extensions
pub mod Printed
