pub mod Following
pub mod Fronts
pub mod Listing
pub mod Ordered
