pub mod Forgetting
pub mod Deferring
pub mod KeptOffers
pub mod Gates
pub mod ReportedVersions
