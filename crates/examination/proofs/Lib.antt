pub mod NoDash
pub mod Keys
pub mod Prints
