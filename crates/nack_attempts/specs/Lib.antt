-- 02, point 7: loss, attempts, and what is claimed of them.
pub mod Attempts
pub mod Claims
