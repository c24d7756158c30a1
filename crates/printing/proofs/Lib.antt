pub mod Spacing
pub mod Lengths
pub mod OneAnswer
