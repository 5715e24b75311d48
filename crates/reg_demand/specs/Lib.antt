pub mod Demands
pub mod Refusing
