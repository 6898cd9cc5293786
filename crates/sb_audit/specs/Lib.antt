pub mod Foreign
pub mod Missing
pub mod Search
