-- The words that cross the boundary.
pub mod Words
pub mod Told
