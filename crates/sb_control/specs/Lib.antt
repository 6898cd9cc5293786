pub mod OneMessage
pub mod LogCauses
pub mod Pieces
