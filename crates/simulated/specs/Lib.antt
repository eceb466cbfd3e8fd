pub mod Rows
pub mod Lists
pub mod Meaning
pub mod RowLemmas
