-- Laws of crate c_chips: Laws (parts of a list that is a chip's, and a command on it that is refused).
pub mod Laws
