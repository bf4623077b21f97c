-- One command of a chip that stands in a list: Chip91, the contract of ligkern_chip.
pub mod Chip91
