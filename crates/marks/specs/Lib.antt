-- Marks in definitions.
pub mod Marks
