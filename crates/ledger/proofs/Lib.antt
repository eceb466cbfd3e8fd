pub mod Views
pub mod Carried
