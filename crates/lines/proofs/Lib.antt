pub mod Adding
pub mod Decimals
pub mod Entries
