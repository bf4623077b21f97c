-- Rows is the table of marked readings.
pub mod Rows
