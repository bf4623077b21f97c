-- End and take on the chip that stands in a list: StepTurns.
pub mod StepTurns
