pub mod Least
pub mod Numbers
pub mod Theorems
