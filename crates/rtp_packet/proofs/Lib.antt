-- Laws of the datagram reader's definitions, for the crates above.
pub mod BigEndian
pub mod Bytes
pub mod Bounds
pub mod Refused
pub mod Alike
pub mod Flip
pub mod Answers
pub mod OneBit
pub mod Written
pub mod Taken
