-- What the proofs of several functions, and of other crates, use.
pub mod Facts
pub mod Mode
pub mod Bounds
pub mod Spread
