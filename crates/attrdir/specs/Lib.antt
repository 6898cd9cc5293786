pub mod Troubles
pub mod Seats
pub mod Shortages
