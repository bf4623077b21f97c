-- How the repaired program is written once the number is known: Writing.
pub mod Writing
