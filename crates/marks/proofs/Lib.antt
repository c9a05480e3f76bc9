-- The laws, for the callers' proofs: which places words mark, the words of a set of places, marks changed.
pub mod MarkLaws
pub mod WordLaws
pub mod CutLaws
pub mod Promises
