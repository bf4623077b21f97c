-- Crate c_list_read is held to one file, Source.
pub mod Source
