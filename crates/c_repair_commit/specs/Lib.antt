-- Crate c_repair_commit is held to one file, Committing.
pub mod Committing
