-- Crate entry_unpack is held to one file, Unpacking: read the contract `UnpacksEntry` and what stands above it, and then `sevenBit` and
-- what stands above that.
pub mod Unpacking
