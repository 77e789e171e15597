-- Laws that the proofs share.
pub mod Given
pub mod Floats
pub mod Follows
pub mod Runs
pub mod Burst
