pub mod Laws
pub mod Opening
pub mod Turns
pub mod Scan
pub mod Writing
pub mod Model
