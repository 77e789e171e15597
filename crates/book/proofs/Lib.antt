-- Check 16 as facts, which every accepted call keeps; then demand 3, from the bottom up: counting, parts of a list of gaps, the book alone,
-- session and book together, the theorem over runs of states, then of stored sessions. After it the theorems of 02's points 5, 6 and 2.
pub mod Count
pub mod Gaps
pub mod Tally
pub mod Past
pub mod Same
pub mod Moved
pub mod States
pub mod Theorem
pub mod Yields
pub mod Asked
pub mod Begun
