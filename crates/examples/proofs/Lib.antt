pub mod Kept
pub mod Longest
