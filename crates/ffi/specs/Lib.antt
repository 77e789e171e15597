-- What the exported functions give.
pub mod Exported
pub mod Follows
pub mod Runs
pub mod Burst
