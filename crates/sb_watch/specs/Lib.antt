pub mod Records
pub mod Watches
pub mod Hubs
pub mod Owed
pub mod Calls
