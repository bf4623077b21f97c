-- Crate pack is held to Packing, over the definitions of crate pack_labels: read the contract `Packs` at its end, and then upwards. Purpose
-- states what packing is for, two theorems.
pub mod Packing
pub mod Purpose
