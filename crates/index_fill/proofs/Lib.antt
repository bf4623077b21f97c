-- Laws: an index while it is filled.
pub mod Laws
