pub mod Agreeing
pub mod SameBytes
