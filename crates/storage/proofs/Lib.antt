-- Laws of check 16 and of the settled storage.
pub mod Checking
pub mod Settled
