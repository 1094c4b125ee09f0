pub mod Given
pub mod Isolation
pub mod Shown
pub mod Sound
