-- The specifications of `config`.
pub mod Mode
pub mod Timings
pub mod Valid
pub mod Delay
pub mod Claims
