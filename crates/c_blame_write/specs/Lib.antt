-- What is told a host in C of a blamed instruction: Told.
pub mod Told
