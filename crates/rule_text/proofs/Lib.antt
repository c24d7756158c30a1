pub mod RuleReading
pub mod Formed
pub mod Document
pub mod OneAnswer
