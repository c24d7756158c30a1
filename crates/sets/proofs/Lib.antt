pub mod Walks
pub mod OneAnswer
pub mod EmptySets
pub mod Padding
