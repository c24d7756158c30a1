pub mod Reckoning
pub mod Spanning
pub mod OneAnswer
