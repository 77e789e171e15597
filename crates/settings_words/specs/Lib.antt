-- Settings as words.
pub mod Words
