pub mod Turns
pub mod Longest
