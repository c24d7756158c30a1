-- The laws of the verdict and the listing.
pub mod Promises
pub mod OneAnswer
