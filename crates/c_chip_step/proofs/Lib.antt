-- Laws of crate c_chip_step: Laws (letters that are read, a word counted, and what end and take leave).
pub mod Laws
