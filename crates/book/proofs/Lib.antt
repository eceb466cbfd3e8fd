pub mod Sums
pub mod Questions
pub mod Same
pub mod Totals
pub mod Accepted
pub mod Change
