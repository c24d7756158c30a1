pub mod Tables
pub mod Masks
pub mod Addressing
pub mod Document
pub mod OneAnswer
