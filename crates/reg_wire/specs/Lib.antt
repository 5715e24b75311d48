pub mod Steps
pub mod Fields
pub mod Reading
pub mod Payload
pub mod OldPayload
