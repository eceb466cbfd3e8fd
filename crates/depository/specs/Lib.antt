pub mod Orders
pub mod OwedSlip
pub mod Moments
pub mod Calling
pub mod CallTally
pub mod DeviceUse
pub mod Paths
pub mod Survival
