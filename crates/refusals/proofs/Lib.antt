-- Laws of the refusals, for the crates above.
pub mod Laws
