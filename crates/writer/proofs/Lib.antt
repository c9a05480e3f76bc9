-- The laws of the writer: bytes, the rows and steps on a sheet; that our sheets are accepted.
pub mod SheetLaws
pub mod WriteLaws
pub mod OursLaws
pub mod Promises
