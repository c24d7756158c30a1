-- The laws of cells.
pub mod Telling
pub mod Below
mod Labels
pub mod LabelNumbers
mod Freeing
mod Comparing
mod FirstRules
mod AskingDirectives
pub mod PacketLabels
