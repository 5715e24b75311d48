pub mod PersonRows
pub mod LoadChecks
pub mod Loading
pub mod Finding
pub mod Sets
