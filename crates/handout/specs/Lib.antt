-- The specifications of `handout`.
pub mod Bits
pub mod Limit
pub mod Timeout
