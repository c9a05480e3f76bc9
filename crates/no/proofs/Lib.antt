-- The laws of the no check: of a thing and its row, of the world that they describe, of the answers; C12.
pub mod ThingLaws
pub mod WorldRows
pub mod NoLaws
pub mod Promises
pub mod Cases
