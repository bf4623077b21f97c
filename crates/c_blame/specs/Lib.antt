-- Which instruction did that? for a host in C, the contract of ligkern_blamed_instruction: Blaming.
pub mod Blaming
