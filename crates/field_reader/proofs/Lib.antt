pub mod Cursors
pub mod Headers
pub mod NamesMet
pub mod Plans
mod Types
