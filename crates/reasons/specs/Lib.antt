-- Why a goal follows, in definitions: the printed set, and the module; what their calls give.
pub mod Printed
pub mod Reach
pub mod OutMarks
pub mod Module
pub mod Set
pub mod Computed
pub mod Inner
pub mod Names
