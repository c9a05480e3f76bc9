-- The laws, for the callers' proofs.
pub mod Truth
pub mod SetLaws
pub mod FoundLaws
pub mod WalkLaws
pub mod Sums
pub mod ListLaws
pub mod BitLaws
pub mod SearchLaws
pub mod RowLaws
pub mod Promises
