-- What the proofs of both readers use.
mod Signs
pub mod Typed
