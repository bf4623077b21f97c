pub mod Places
pub mod Packing
pub mod Shifts
pub mod Purpose
