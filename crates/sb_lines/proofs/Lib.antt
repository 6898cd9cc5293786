pub mod LogLines
pub mod Refusals
