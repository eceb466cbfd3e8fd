pub mod Crossing
pub mod Statuses
