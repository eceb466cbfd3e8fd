pub mod Drills
pub mod Pictures
