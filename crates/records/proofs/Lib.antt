pub mod Lines
pub mod Fieldwise
pub mod Forming
pub mod Document
pub mod OneAnswer
