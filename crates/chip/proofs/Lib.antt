-- Laws of crate chip: Laws (a command whole, refused or taken).
pub mod Laws
