-- That every row of the table holds.
pub mod CaseLaws
pub mod Cases
