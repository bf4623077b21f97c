-- Laws of taking packing back.
--   Standing   what the passes over a font find
--   Written    what is written, and the contract of the whole
pub mod Standing
pub mod Written
