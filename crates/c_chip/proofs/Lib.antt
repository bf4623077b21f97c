-- Laws of crate c_chip: Laws (begin, and the other commands).
pub mod Laws
