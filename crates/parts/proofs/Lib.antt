pub mod Parting
pub mod Bytes
pub mod OneAnswer
