pub mod Orders
pub mod Answers
pub mod Key
pub mod Texts
pub mod Program
