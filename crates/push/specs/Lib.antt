-- What the contracts of `push` and `push_rtx` cite beside `model`'s definitions.
pub mod Answers
pub mod Receiving
pub mod Media
pub mod Repair
