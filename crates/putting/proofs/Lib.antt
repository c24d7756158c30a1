pub mod Putting
pub mod Decimals
pub mod OneAnswer
