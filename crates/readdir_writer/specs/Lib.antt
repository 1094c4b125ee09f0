pub mod Collecting
pub mod Readdir
