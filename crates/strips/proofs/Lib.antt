-- The laws of strips.
pub mod MaskLists
pub mod StripMasks
mod SpanMasks
mod Masking
