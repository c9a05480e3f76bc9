-- The numbers that the checks' C calls return.
pub mod Answers
