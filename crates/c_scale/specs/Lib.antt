-- One kern scaled for a host in C, the contract of ligkern_to_scaled: Scaling.
pub mod Scaling
