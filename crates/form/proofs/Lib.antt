mod Exceptions
mod Orders
mod Records
pub mod OneAnswer
