-- Laws of the words.
pub mod Kept
