-- The numbers that C gets; marks in and out as bytes; what C may conclude; that the promises fix their results.
pub mod CodeLaws
pub mod MarksLaws
pub mod Promises
pub mod CallsRight
