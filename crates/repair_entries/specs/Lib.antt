-- Crate repair_entries is held to Entering: read the contract `Enters`, and then what stands above it. What its passes leave is
-- repairs/specs/Damaged and Warnings.
pub mod Entering
