pub mod Finished
pub mod Writers
