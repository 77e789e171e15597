-- Laws of `push` and `push_rtx`.
pub mod Placing
pub mod Queueing
pub mod Pushing
pub mod Repaired
pub mod Repairing
