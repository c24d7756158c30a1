pub mod Widest
pub mod OneAnswer
pub mod Named
