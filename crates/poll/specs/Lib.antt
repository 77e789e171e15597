-- What the contracts of `poll`, `poll_nack` and the call on the wire cite beside `model`'s definitions.
pub mod Answers
pub mod Steps
pub mod Nacking
