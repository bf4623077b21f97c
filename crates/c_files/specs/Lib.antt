-- Crate c_files is held to one file, Files.
pub mod Files
