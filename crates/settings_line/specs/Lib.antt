-- 02, point 13: settings as numbers, the line that keeps them, and what is claimed of the two.
pub mod Fields
pub mod Line
pub mod Claims
