pub mod Fitting
pub mod Names
pub mod Replies
pub mod Requests
pub mod Trips
