pub mod KeepsTally
pub mod Instructing
pub mod Reopening
pub mod Survival
pub mod Runs
pub mod Starts
pub mod OneAnswer
pub mod Determined
