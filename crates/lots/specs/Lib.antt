pub mod Owners
pub mod Meaning
pub mod LotLemmas
pub mod TableLemmas
