pub mod Bools
pub mod Lists
pub mod Cases
pub mod Maps
pub mod Soundness
pub mod Views
pub mod Laws
