-- Laws of crate c_chip_add: Laws (a letter more, and the chip that it leaves).
pub mod Laws
