-- A chip after a command: Turns, over chips/specs/Commands.
pub mod Turns
