-- Laws of the input, of what an answer tells and of what is printed; no second result.
pub mod InputLaws
pub mod EverythingLaws
pub mod TakenLaws
pub mod PartsLaws
pub mod PrintLaws
pub mod Promises
