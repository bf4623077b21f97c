-- Stepping: a step by what it answers. Told: a quick step, or a last kern, told at once.
pub mod Stepping
pub mod Told
