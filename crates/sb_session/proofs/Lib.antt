pub mod Saying
pub mod Talking
pub mod PushEnds
