pub mod Cores
pub mod Answers
pub mod Calls
pub mod Steps
pub mod Acts
pub mod Talks
pub mod Purging
