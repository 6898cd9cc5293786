pub mod Receiving
pub mod ReadPieces
