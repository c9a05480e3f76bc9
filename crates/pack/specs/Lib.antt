-- Documents 01 and 02 (2/12) in definitions. The meaning: World, Rules. The bytes: Bytes, Record. What comes back: Table, Answers, Pack, Question.
pub mod World
pub mod Rules
pub mod Bytes
pub mod Record
pub mod Table
pub mod Answers
pub mod Pack
pub mod Question
pub mod Computed
