-- Laws of crate chip_block: Laws (the interrupt by its tests, and a block written byte by byte).
pub mod Laws
