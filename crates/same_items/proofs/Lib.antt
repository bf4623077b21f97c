-- What is proved of two runs: Comparing (two answers, and then what follows them), Stepping (a step on each).
pub mod Comparing
pub mod Stepping
