pub mod Frames
pub mod Streams
pub mod Runs
pub mod Sending
pub mod Receiving
pub mod Connections
