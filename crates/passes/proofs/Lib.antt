-- The laws, for the callers' proofs: what loops and saturation keep, that the finished passes are exact and decide, and that our sheets are good.
pub mod LoopLaws
pub mod SaturationLaws
pub mod Lacking
pub mod Exact
pub mod PassLaws
pub mod StopLaws
pub mod StepsLaws
pub mod RowsLaws
