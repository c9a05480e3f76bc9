-- The laws: of picking over any property of place sets, of the printed set, of reach and the module, that nothing is lost by it; of the calls.
pub mod PickLaws
pub mod PrintedLaws
pub mod ReachLaws
pub mod InsideLaws
pub mod OutLaws
pub mod HalveLaws
pub mod AskLaws
pub mod NameLaws
pub mod FileLaws
pub mod AnswerLaws
pub mod ModuleLaws
pub mod Promises
