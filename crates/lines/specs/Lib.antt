-- What the bench program's input asks, and what is printed for it.
pub mod Input
pub mod Prints
