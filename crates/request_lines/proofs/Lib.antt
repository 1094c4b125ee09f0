pub mod FieldLengths
pub mod Widening
