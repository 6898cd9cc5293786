pub mod Changes
pub mod Printed
pub mod Json
