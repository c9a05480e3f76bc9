-- The laws, for the callers' proofs: what the bytes say, what the checks show, what the rules derive.
pub mod Parts
pub mod BytesLaws
pub mod RecordLaws
pub mod PackLaws
pub mod QuestionLaws
pub mod GivenLaws
pub mod WorldLaws
pub mod RuleLaws
pub mod Ranges
pub mod Soundness
pub mod Promises
pub mod Examples
