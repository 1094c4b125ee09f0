pub mod Cases
pub mod Checksum
pub mod Ends
