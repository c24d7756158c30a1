pub mod Stepping
pub mod OneAnswer
