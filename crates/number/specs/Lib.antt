pub mod Answers
pub mod BigEndian
pub mod TwosComplement
