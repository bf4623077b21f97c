pub mod Insertion
pub mod Redirects
