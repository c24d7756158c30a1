-- From charts to the verdict and the listing over all packets.
pub mod Forming
mod Corners
mod Answering
