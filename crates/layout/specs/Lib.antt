-- How to read the notation stands at the top of crates/meaning/specs/Lib.antt.
pub mod Masks
pub mod Passed
