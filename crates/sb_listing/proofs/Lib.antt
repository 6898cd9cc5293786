pub mod Telling
pub mod Merging
pub mod Texts
