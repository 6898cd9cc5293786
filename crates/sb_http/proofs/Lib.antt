mod Parting
mod Reading
mod Lines
mod Ends
mod WriteBodies
