-- Laws of crate test_file_runs: Widening (bytes written as numbers).
mod Widening
