pub mod Laws
pub mod Noting
