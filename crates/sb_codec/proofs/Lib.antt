pub mod Loop
pub mod Taken
pub mod Again
pub mod Parts
pub mod Bodies
pub mod Sizes
pub mod Laws
pub mod Standings
