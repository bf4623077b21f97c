-- Laws of crate chip_check: Laws (the letters of a chip's word).
pub mod Laws
