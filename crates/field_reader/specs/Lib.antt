pub mod Cursors
pub mod Headers
pub mod Plans
