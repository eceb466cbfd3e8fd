pub mod Rows
pub mod Meaning
pub mod OutsideLemmas
