pub mod Fronts
pub mod Taking
pub mod Splitting
pub mod OutOfReaders
pub mod Outcomes
