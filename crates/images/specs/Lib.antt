pub mod Splices
pub mod Images
pub mod Changes
