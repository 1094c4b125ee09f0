pub mod Checksums
pub mod Filling
