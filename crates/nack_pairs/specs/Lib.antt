-- 02, point 1: the pairs of a generic NACK, their bytes, how they grow by one number, their reader, and what is claimed of them.
pub mod Pairs
pub mod Wire
pub mod Naming
pub mod Reader
pub mod Pairing
