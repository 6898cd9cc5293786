pub mod Deferring
pub mod KeptOffers
pub mod LeavingOut
pub mod Falls
