-- The laws for hosts, and what the proofs of the exported functions share.
pub mod GivenAgain
pub mod Isolating
mod Plans
pub mod SoundHolds
pub mod Telling
pub mod WrittenAgain
