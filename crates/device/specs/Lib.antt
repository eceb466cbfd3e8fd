pub mod Bytes
pub mod Medium
pub mod Calls
pub mod Power
pub mod Traces
