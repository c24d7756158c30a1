-- How to read the notation stands at the top of crates/meaning/specs/Lib.antt.
pub mod Vocabulary
pub mod Empty
pub mod Listed
pub mod Inner
