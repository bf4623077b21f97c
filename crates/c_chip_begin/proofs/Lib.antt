-- Laws of crate c_chip_begin: Laws (whose turn it is, and the list after a begin).
pub mod Laws
