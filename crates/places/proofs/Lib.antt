-- The laws of places.
pub mod Membership
pub mod PlaceLists
pub mod PlacesCut
pub mod PlacesExact
pub mod FrontStores
mod Nearest
pub mod NextPlaces
mod Placing
