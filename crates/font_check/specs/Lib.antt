-- The stages of checking a font file: Stages.
pub mod Stages
