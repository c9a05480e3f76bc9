-- The laws of the yes check: of one step, of the steps of a sheet; C11.
pub mod StepLaws
pub mod YesLaws
pub mod Promises
pub mod Cases
