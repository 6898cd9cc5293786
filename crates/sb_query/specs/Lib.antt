pub mod Answers
pub mod Pages
pub mod Paging
pub mod Printed
pub mod Statuses
