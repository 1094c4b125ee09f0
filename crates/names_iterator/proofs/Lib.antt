pub mod Looping
mod Reaching
