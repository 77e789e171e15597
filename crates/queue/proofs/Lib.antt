-- Laws of the opening and of the calls that leave the session as it is.
pub mod New
pub mod Unchanged
