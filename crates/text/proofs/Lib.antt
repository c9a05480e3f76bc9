-- The laws, for the callers' proofs: bytes in a buffer, numbers in decimal, lines and the whole text.
pub mod BufferLaws
pub mod DigitLaws
pub mod PlaceLaws
pub mod LineLaws
pub mod Promises
pub mod Example
