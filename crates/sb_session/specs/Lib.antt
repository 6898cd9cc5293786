pub mod Handlers
pub mod Received
pub mod Sessions
pub mod Taking
pub mod Telling
pub mod Talks
pub mod Pushes
