pub mod Splices
pub mod Rows
pub mod Meaning
pub mod Determined
