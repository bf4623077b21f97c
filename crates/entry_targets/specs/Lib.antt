-- Crate entry_targets is held to one file, Targets.
pub mod Targets
