-- What the contracts of the calls cite beside `model`'s definitions.
pub mod Answers
