pub mod PolicyReading
pub mod Formed
pub mod Document
pub mod OneAnswer
