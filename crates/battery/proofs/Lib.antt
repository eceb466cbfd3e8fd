pub mod Stored
pub mod Kind
