-- Crate c_values is held to one file, Telling.
pub mod Telling
