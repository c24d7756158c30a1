mod Seeking
pub mod OneAnswer
