-- Laws of `poll` and `poll_nack`.
pub mod Early
pub mod Holding
pub mod Parted
pub mod Fronts
pub mod Handed
pub mod Losing
pub mod Drained
pub mod Polling
pub mod Nacking
