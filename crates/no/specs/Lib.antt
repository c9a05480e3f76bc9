-- Document 01's no sheet: what it says, and what the check gives.
pub mod NoSheet
pub mod Answers
pub mod Computed
pub mod Inner
