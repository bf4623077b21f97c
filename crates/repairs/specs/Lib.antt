-- What repair is held to. In the order in which to read:
--   Damaged     a font as it is lent to be repaired; its entries unpacked, and what is reachable
--   Repaired    the font repaired, step by step
--   Warnings    the warnings, in their order
--   Repairs     what the whole repair gives: refusals, answer, lists
--   Asking      THE contract of `ask_repair`, which tells the warnings
--   Committing  THE contract of `commit_repair`, which takes them and repairs
--   Pushed      warnings after others: the contract of each pass that warns
--   Purpose     what is proved of them
pub mod Damaged
pub mod Repaired
pub mod Warnings
pub mod Repairs
pub mod Asking
pub mod Committing
pub mod Pushed
pub mod Purpose
