pub mod Breadth
