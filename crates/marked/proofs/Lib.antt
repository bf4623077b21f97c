-- Marked is the one theorem on the table of marked readings.
pub mod Compiling
pub mod Marked
