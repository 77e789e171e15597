-- What a call finds after check 16.
pub mod Held
pub mod Settled
