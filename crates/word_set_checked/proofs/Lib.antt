-- Laws: what set_checked_word tells. Theorems: what specs/Purpose states.
pub mod Laws
pub mod Theorems
