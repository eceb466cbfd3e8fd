pub mod Table
pub mod Terms
pub mod Rules
pub mod Flows
pub mod Law
pub mod Words
