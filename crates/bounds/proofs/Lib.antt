-- The laws of blocks and of their bounds in an array.
pub mod Within
pub mod SpanLists
pub mod BlockSpans
pub mod Counted
mod Storing
mod BlockWalk
