-- Laws of a burst.
pub mod Ends
pub mod Steps
pub mod Fold
pub mod Accepted
pub mod Runs
