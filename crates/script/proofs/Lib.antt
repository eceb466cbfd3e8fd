pub mod Num
pub mod Feeding
pub mod Fields
pub mod Cuts
pub mod Reading
