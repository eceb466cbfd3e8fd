pub mod Journal
pub mod Blocks
pub mod Decoding
pub mod Format
pub mod Places
pub mod Entries
pub mod Headers
