pub mod ByHand
pub mod Proved
