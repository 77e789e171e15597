-- The enums of the code in the terms of `model`.
pub mod Place
