pub mod Equal
pub mod Versions
pub mod Reasons
pub mod Firsts
pub mod Truth
pub mod Passing
