-- The laws of the listing over cells.
pub mod Listing
pub mod Few
pub mod Written
mod RowLaws
mod Ending
mod Walking
