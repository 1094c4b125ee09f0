pub mod Answered
pub mod Types
