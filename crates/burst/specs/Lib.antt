-- A burst handed over together, and what the functions inside ask of the session.
pub mod Burst
pub mod Standing
pub mod Runs
