pub mod Sums
pub mod Holdings
pub mod Rulings
