pub mod Characters
pub mod Decisions
pub mod Texts
