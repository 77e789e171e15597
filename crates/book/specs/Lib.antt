-- The book, the claim over every run of states and every list of calls, and 01's table of proved rows.
pub mod Sorted
pub mod Book
pub mod States
pub mod Claim
pub mod Code
pub mod First
pub mod Samples
pub mod Nacks
pub mod Rows
