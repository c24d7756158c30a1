-- The laws of masks, and of numbers stored one after the other.
pub mod MaskLaws
pub mod Storing
pub mod Folding
