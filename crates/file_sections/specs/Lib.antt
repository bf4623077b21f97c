-- Crate file_sections is held to Fitting, over the definitions of files/specs/Writing.
pub mod Fitting
