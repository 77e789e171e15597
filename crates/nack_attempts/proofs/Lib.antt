-- What the proofs of several functions use.
pub mod Least
pub mod Bits
pub mod Powers
