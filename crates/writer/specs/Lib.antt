-- Our sheets: what the writer gives, and the lent sheet afterwards.
pub mod Sheet
pub mod Computed
pub mod Inner
