-- The specifications of `refusals`.
pub mod Refusals
