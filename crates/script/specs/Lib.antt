pub mod Padded
pub mod PaddedLemmas
pub mod Words
pub mod Numerals
pub mod Feeds
pub mod Requests
pub mod LineLaw
