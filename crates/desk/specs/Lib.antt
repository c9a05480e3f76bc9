-- What the calls for C give.
pub mod Desk
pub mod Inner
