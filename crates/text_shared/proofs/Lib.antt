-- Laws of crate text_shared:
--   Laws  a list copied to the front of another; a program shared in front of a list; a text read and shared
pub mod Laws
