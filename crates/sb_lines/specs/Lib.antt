pub mod Printed
pub mod WrittenBack
