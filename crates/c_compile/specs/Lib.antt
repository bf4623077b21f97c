-- A font compiled for a host in C, the contract of ligkern_compile: Counts.
pub mod Counts
