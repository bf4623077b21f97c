-- Laws of a font as it was before packing, and two theorems:
--   Ends        where its own instructions begin and end
--   Own         its own instructions stand whole among the packed ones, and so do their rules
--   Moved       the table of entries that are moved back
--   Theorems    `unpacked-rules` and `unpacked-file`
pub mod Ends
pub mod Own
pub mod Moved
pub mod Theorems
