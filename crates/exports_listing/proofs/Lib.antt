-- The law for hosts.
pub mod Isolating
