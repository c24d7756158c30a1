pub mod RowLines
pub mod Reporting
pub mod OneAnswer
pub mod Promises
