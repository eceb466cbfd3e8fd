pub mod Put
pub mod Deeds
pub mod New
