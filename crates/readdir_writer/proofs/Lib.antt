pub mod CollectedParts
pub mod Copying
pub mod Lengths
pub mod Readdirs
pub mod Taking
