-- The laws of indentation, byte by byte.
pub mod Laws
