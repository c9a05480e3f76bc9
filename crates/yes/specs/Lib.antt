-- Document 01's yes sheet: what it says, and what the check gives.
pub mod YesSheet
pub mod Answers
pub mod Computed
