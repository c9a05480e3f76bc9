-- What the engine gives: the verdict.
pub mod Verdict
pub mod Computed
pub mod Inner
pub mod Lines
