-- The text of an answer, byte by byte, and where it stands in a buffer.
pub mod Text
pub mod Buffer
pub mod Inner
