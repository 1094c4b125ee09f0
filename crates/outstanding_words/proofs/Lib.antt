pub mod Words
pub mod Searches
pub mod Scans
