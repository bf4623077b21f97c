-- The list after a change at the cursor. The contract of one_step is that of crate `readings`, and what a change is stands in crate
-- `read_change`.
--   Changed  how many items stand after a change, and the list of them
pub mod Changed
