-- The settings line beside the opening.
pub mod Opens
