pub mod Runs
pub mod ShownInside
