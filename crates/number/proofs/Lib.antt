pub mod BigEndian
pub mod Straight
pub mod TwosComplement
