-- The laws of the passes of repair.
--   Sizes   how long the lists are that the passes write
--   Laws    the contract, from what each pass leaves
pub mod Sizes
pub mod Laws
