-- Laws of crate c_chip_turn: Laws (what each command leaves, by byte 0).
pub mod Laws
