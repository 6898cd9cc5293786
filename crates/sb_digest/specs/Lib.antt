pub mod Digests
pub mod Lengths
pub mod Limits
pub mod Builders
pub mod Pairs
