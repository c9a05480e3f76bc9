-- The passes in definitions: Loop, Saturation, Passes. What is read off them: Ours. Where they may stop: Stop.
pub mod Loop
pub mod Saturation
pub mod Passes
pub mod Ours
pub mod Stop
