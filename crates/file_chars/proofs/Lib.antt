-- Laws of crate file_chars.
pub mod Laws
