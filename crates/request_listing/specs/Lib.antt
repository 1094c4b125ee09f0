pub mod Listing
pub mod Rendered
