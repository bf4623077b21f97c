-- Laws of crate c_chip_read: Laws (what is tested of a list).
pub mod Laws
