-- The laws of the engine: C9, the goal's step, runs that may stop, the verdict, completion.
pub mod Cases
pub mod GoalLaws
pub mod RunLaws
pub mod VerdictLaws
pub mod VerdictRight
pub mod Promises
pub mod CompleteLaws
