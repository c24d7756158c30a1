pub mod Reading
pub mod OneAnswer
