pub mod Ascending
pub mod Searching
pub mod Longest
pub mod Cutting
pub mod Gathering
pub mod Telling
