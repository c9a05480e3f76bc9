-- The definitions that the contracts cite.
pub mod Bit
pub mod Sets
pub mod Walk
pub mod Lists
