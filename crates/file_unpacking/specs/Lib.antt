-- Crate file_unpacking is held to one file, Unpacking.
pub mod Unpacking
