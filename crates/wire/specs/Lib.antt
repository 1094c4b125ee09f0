pub mod Cursors
pub mod Runs
pub mod Values
