pub mod Bytes
pub mod Answered
pub mod Traces
