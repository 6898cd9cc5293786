pub mod Plain
pub mod Order
pub mod Floors
pub mod Contents
