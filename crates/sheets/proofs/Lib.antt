-- Both checks together, and that the promises of their calls fix the results.
pub mod Both
pub mod CallsRight
pub mod Promises
