pub mod Places
pub mod Ids
pub mod Owing
pub mod KeptNotes
pub mod Alone
